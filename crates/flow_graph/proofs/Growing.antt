-- Lists that grow, step by step.
use Rattle.std.proofs.Common.{◌≡◌, ℕ, ◌+◌, ◌<◌, ◌⊎◌, List, [], ◌∷◌, ◌++◌, Contains, sym, subst, inl, inr, arith}
use Rattle.std.proofs.lemmas.Bool.{cases_lt}
use Rattle.std.proofs.lemmas.List.Elements.{Contains-append_left, Contains-push, Contains-push_cases}
use Rattle.flow_graph.specs.Growing.{Grows}

pub grows_none : {X : Type 0} (old new : List X) (Q : X → Type 0) → new ≡ old → ((x : X) → Q x → ⊥) → Grows old new Q
grows_none {X} old new Q is never =
    let P : List X → Type 0 = λ ys. Grows old ys Q in
    subst P (sym is) (record { keeps = λ x has. has; adds = λ x q. absurd (never x q); only = λ x has. inl has })

pub grows_push : {X : Type 0} (old new : List X) (y : X) (Q : X → Type 0) → new ≡ old ++ y ∷ [] → Q y → ((x : X) → Q x → x ≡ y) → Grows old new Q
grows_push {X} old new y Q is holds one =
    let P : List X → Type 0 = λ ys. Grows old ys Q in
    let C : X → Type 0 = λ x. Contains (old ++ y ∷ []) x in
    subst P (sym is) (record {
      keeps = λ x has. Contains-append_left old (y ∷ []) x has;
      adds = λ x q. subst C (sym (one x q)) (Contains-push old y);
      only = λ x has. elim (Contains-push_cases old y x has) [ inl earlier ↦ inl earlier | inr same ↦ inr (subst Q same holds) ];
    })

pub grows_then : {X : Type 0} (old mid new : List X) (P Q R : X → Type 0) → Grows old mid P → Grows mid new Q → ((x : X) → P x → R x) → ((x : X) → Q x → R x) → ((x : X) → R x → P x ⊎ Q x) → Grows old new R
grows_then old mid new P Q R a b left right either = record {
  keeps = λ x has. b.keeps x (a.keeps x has);
  adds = λ x r. elim (either x r) [ inl p ↦ b.keeps x (a.adds x p) | inr q ↦ b.adds x q ];
  only = λ x has.
      elim (b.only x has) [
        | inl earlier ↦ elim (a.only x earlier) [ inl first ↦ inl first | inr p ↦ inr (left x p) ]
        | inr q ↦ inr (right x q)
      ];
}

pub grows_alike : {X : Type 0} (old new : List X) (P Q : X → Type 0) → ((x : X) → P x → Q x) → ((x : X) → Q x → P x) → Grows old new P → Grows old new Q
grows_alike old new P Q to back a = record {
  keeps = a.keeps;
  adds = λ x q. a.adds x (back x q);
  only = λ x has. elim (a.only x has) [ inl earlier ↦ inl earlier | inr p ↦ inr (to x p) ];
}

-- ---- in a loop

-- it holds by one of the first n numbers
abbrev pub Upto : {X : Type 0} → (ℕ → X → Type 0) → ℕ → X → Type 0
Upto Q n x = (i : ℕ) × (i < n) × Q i x

pub grows_start : {X : Type 0} (old new : List X) (Q : ℕ → X → Type 0) → new ≡ old → Grows old new (Upto Q 0)
grows_start old new Q is = grows_none old new (Upto Q 0) is (λ x q. let lt = q.1 in omega arith)

pub grows_more : {X : Type 0} (old mid new : List X) (Q : ℕ → X → Type 0) (n : ℕ) → Grows old mid (Upto Q n) → Grows mid new (Q n) → Grows old new (Upto Q (n + 1))
grows_more {X} old mid new Q n a b =
    grows_then old mid new (Upto Q n) (Q n) (Upto Q (n + 1)) a b
    (λ x q. let lt = q.1 in (q.0, omega arith, q.2))
    (λ x q. (n, omega arith, q))
    (λ x q.
    elim (cases_lt q.0 n) [
      | inl less ↦ inl (q.0, less, q.2)
      | inr ge ↦ let lt = q.1 in let same : q.0 ≡ n = omega arith in let P : ℕ → Type 0 = λ i. Q i x in inr (subst P same q.2)
    ])
