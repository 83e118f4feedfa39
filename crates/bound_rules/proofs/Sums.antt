-- Sums over sets of methods, in whatever order these are listed.
use Rattle.std.proofs.Common.{◌≡◌, ℕ, suc, ◌+◌, ◌≤◌, not, eqb, List, [], ◌∷◌, filter, sum_by, Contains, sym, ap, ◌∙◌, subst, inl, inr, arith}
use Rattle.std.proofs.lemmas.Bool.{cases_eq, eq-eqb, ne_eqb}
use Rattle.std.proofs.lemmas.List.Sums.{sum_by-cons}
use Rattle.lists.specs.Members.{at_head, in_tail, cons_cases, nil_contains}
use Rattle.loop_nest.proofs.Elements.{filter_contains, kept_at, dropped_at}
use Rattle.method_cache.specs.Regions.Region.{AreDistinct}
use Rattle.bytecode_model.specs.Program.{Program}
use Rattle.method_flow.specs.declared.timing.Timing.{Timing}
use Rattle.method_flow.specs.Regions.{AreMethodsOf, load}
use Rattle.bound_rules.specs.Fitting.{FitTogether, loads_of}

-- the numbers of a list other than x
abbrev others : ℕ → List ℕ → List ℕ
others x ys = filter (λ y. not (eqb y x)) ys

others-same : (x y : ℕ) (ys : List ℕ) → y ≡ x → others x (y ∷ ys) ≡ others x ys
others-same x y ys same = dropped_at (λ z. not (eqb z x)) y ys (ap not (eq-eqb y x same))

others-other : (x y : ℕ) (ys : List ℕ) → (y ≡ x → ⊥) → others x (y ∷ ys) ≡ y ∷ others x ys
others-other x y ys other = kept_at (λ z. not (eqb z x)) y ys (ap not (ne_eqb y x other))

others_sum : (f : ℕ → ℕ) (x : ℕ) (ys : List ℕ) → sum_by f (others x ys) ≤ sum_by f ys
others_sum f x [] = omega arith
others_sum f x (y ∷ ys) =
    let P : List ℕ → Type 0 = λ zs. sum_by f zs ≤ sum_by f (y ∷ ys) in
    let later = others_sum f x ys in
    elim (cases_eq y x) [
      | inl same ↦ subst P (sym (others-same x y ys same)) (omega (arith, sum_by-cons f y ys))
      | inr other ↦ subst P (sym (others-other x y ys other)) (omega (arith, sum_by-cons f y ys, sum_by-cons f y (others x ys)))
    ]

sum_with_others : (f : ℕ → ℕ) (x : ℕ) (ys : List ℕ) → Contains ys x → f x + sum_by f (others x ys) ≤ sum_by f ys
sum_with_others f x [] c = absurd (nil_contains x c)
sum_with_others f x (y ∷ ys) c =
    let P : List ℕ → Type 0 = λ zs. f x + sum_by f zs ≤ sum_by f (y ∷ ys) in
    elim (cases_eq y x) [
      | inl same ↦ subst P (sym (others-same x y ys same)) (omega (arith, sum_by-cons f y ys, others_sum f x ys, ap f same))
      | inr other ↦
          elim (cons_cases y x ys c) [
            | inl here ↦ absurd (other here)
            | inr there ↦ subst P (sym (others-other x y ys other)) (omega (arith, sum_by-cons f y ys, sum_by-cons f y (others x ys), sum_with_others f x ys there))
          ]
    ]

pub distinct_tail : (x : ℕ) (xs : List ℕ) → AreDistinct (x ∷ xs) → AreDistinct xs
distinct_tail x xs apart = λ i j d less below. apart (suc i) (suc j) d (omega arith) (omega arith)

-- the first is none of the later ones
pub first_apart : (x z : ℕ) (xs : List ℕ) → AreDistinct (x ∷ xs) → Contains xs z → z ≡ x → ⊥
first_apart x z xs apart c same = let below = c.1 in apart 0 (suc c.0) z (omega arith) (omega arith) (sym same ∙ sym c.2)

-- some of the numbers, each once, sum to no more than all
pub sum_of_part : (f : ℕ → ℕ) (xs ys : List ℕ) → AreDistinct xs → ((z : ℕ) → Contains xs z → Contains ys z) → sum_by f xs ≤ sum_by f ys
sum_of_part f [] ys apart within = omega arith
sum_of_part f (x ∷ xs) ys apart within =
    let later =
    sum_of_part f xs (others x ys) (distinct_tail x xs apart)
    (λ z c. filter_contains (λ y. not (eqb y x)) ys z (ap not (ne_eqb z x (first_apart x z xs apart c))) (within z (in_tail x z xs c)))
    in
    omega (arith, sum_by-cons f x xs, sum_with_others f x ys (within x (at_head x xs)))

same_sum : {K : ℕ → Type 0} (f : ℕ → ℕ) (xs ys : List ℕ) → AreMethodsOf K xs → AreMethodsOf K ys → sum_by f xs ≡ sum_by f ys
same_sum f xs ys a b =
    let up = sum_of_part f xs ys a.distinct (λ z c. (b.each z).1 ((a.each z).0 c)) in
    let down = sum_of_part f ys xs b.distinct (λ z c. (a.each z).1 ((b.each z).0 c)) in
    omega (arith, up, down)

-- the loads of a set of methods are told by the set
pub same_loads : {P : Program} {t : Timing} {K : ℕ → Type 0} (a b : FitTogether P t K) → loads_of a ≡ loads_of b
same_loads {P} {t} a b = same_sum (load P t.read) a.methods b.methods a.are b.are
