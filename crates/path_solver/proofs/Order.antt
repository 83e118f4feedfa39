-- An order of the flagged nodes, node by node: each node is added once all edges to it were counted off.
use Rattle.std.proofs.Common.{◌≡◌, ℕ, zero, suc, ◌+◌, ◌<◌, ◌≤◌, Bool, true, false, cond, eqb, not, ◌&&◌, ◌||◌, List, [], ◌∷◌, ◌++◌, length, get_or, take, map, filter, count_by, Contains, refl, sym, ap, ◌∙◌, subst, inl, inr, arith, zero-add}
use Rattle.loop_nest.specs.Digraph.{sources_of}
use Rattle.std.proofs.lemmas.Bool.{cases_eq, cases_Bool, eq-eqb, ne_eqb, eqb-true, both_ways}
use Rattle.std.proofs.lemmas.List.Elements.{Contains-push}
use Rattle.std.proofs.lemmas.List.Sums.{sum_by-cons}
use Rattle.lists.specs.Members.{at_head, in_tail, cons_cases, nil_contains}
use Rattle.loop_nest.proofs.Elements.{kept_at, dropped_at}
use Rattle.section_check.specs.Bounded.{holds}
use Rattle.section_check.proofs.Elements.{contains_from_holds, holds_from_contains}
use Rattle.path_solver.proofs.CountingDown.{times}

abbrev pub flip : ℕ × ℕ → ℕ × ℕ
flip e = (e.1, e.0)

-- the edge leads to v from a node that isn't done
abbrev pub awaits : List ℕ → ℕ → ℕ × ℕ → Bool
awaits done v e = not (holds done e.0) && eqb e.1 v

abbrev pub leads : ℕ → ℕ → ℕ × ℕ → Bool
leads u v e = eqb e.0 u && eqb e.1 v

abbrev one : Bool → ℕ
one b = cond b 1 0

count_cons : {X : Type 0} (p : X → Bool) (x : X) (xs : List X) → count_by p (x ∷ xs) ≡ one (p x) + count_by p xs
count_cons p x xs = sum_by-cons (λ y. cond (p y) 1 0) x xs

-- the edges to v of all that lead from u
pub times_targets : (es : List (ℕ × ℕ)) (u v : ℕ) → times v (sources_of (map flip es) u) ≡ count_by (leads u v) es
times_targets [] u v = refl
times_targets (e ∷ es) u v =
    let rest = times_targets es u v in
    let p : ℕ × ℕ → Bool = λ z. eqb z.1 u in
    let f : ℕ × ℕ → ℕ = λ z. z.0 in
    elim (cases_Bool (eqb e.0 u)) [
      | inl yes' ↦
          ap (λ zs. count_by (λ y. eqb y v) (map f zs)) (kept_at p (flip e) (map flip es) yes')
          ∙ count_cons (λ y. eqb y v) e.1 (map f (filter p (map flip es)))
          ∙ ap (λ k. one (eqb e.1 v) + k) rest
          ∙ sym (count_cons (leads u v) e es ∙ ap (λ b. one (b && eqb e.1 v) + count_by (leads u v) es) yes')
      | inr no' ↦
          ap (λ zs. count_by (λ y. eqb y v) (map f zs)) (dropped_at p (flip e) (map flip es) no')
          ∙ rest
          ∙ sym (count_cons (leads u v) e es ∙ ap (λ b. one (b && eqb e.1 v) + count_by (leads u v) es) no' ∙ zero-add (count_by (leads u v) es))
    ]

holds_other : (done : List ℕ) (u x : ℕ) → eqb u x ≡ false → holds (done ++ u ∷ []) x ≡ holds done x
holds_other [] u x h = ap (λ b. b || false) h
holds_other (d ∷ ds) u x h = ap (λ b. eqb d x || b) (holds_other ds u x h)

split_one : (done : List ℕ) (u v : ℕ) (e : ℕ × ℕ) → holds done u ≡ false → one (awaits (done ++ u ∷ []) v e) + one (leads u v e) ≡ one (awaits done v e)
split_one done u v e out =
    elim (cases_eq e.0 u) [
      | inl same ↦
          let a : holds (done ++ u ∷ []) e.0 ≡ true = ap (holds (done ++ u ∷ [])) same ∙ holds_from_contains (done ++ u ∷ []) u (Contains-push done u) in
          let b : holds done e.0 ≡ false = ap (holds done) same ∙ out in
          let x : one (awaits (done ++ u ∷ []) v e) ≡ 0 = ap (λ h. one (not h && eqb e.1 v)) a in
          let y : one (leads u v e) ≡ one (eqb e.1 v) = ap (λ h. one (h && eqb e.1 v)) (eq-eqb e.0 u same) in
          let z : one (awaits done v e) ≡ one (eqb e.1 v) = ap (λ h. one (not h && eqb e.1 v)) b in
          omega arith
      | inr other ↦
          let x : one (awaits (done ++ u ∷ []) v e) ≡ one (awaits done v e) = ap (λ h. one (not h && eqb e.1 v)) (holds_other done u e.0 (ne_eqb u e.0 (λ s. other (sym s)))) in
          let y : one (leads u v e) ≡ 0 = ap (λ h. one (h && eqb e.1 v)) (ne_eqb e.0 u other) in
          omega arith
    ]

pub split : (done : List ℕ) (u v : ℕ) (es : List (ℕ × ℕ)) → holds done u ≡ false → count_by (awaits (done ++ u ∷ []) v) es + count_by (leads u v) es ≡ count_by (awaits done v) es
split done u v [] out = refl
split done u v (e ∷ es) out =
    let rest = split done u v es out in
    let here = split_one done u v e out in
    let a = count_cons (awaits (done ++ u ∷ []) v) e es in
    let b = count_cons (leads u v) e es in
    let c = count_cons (awaits done v) e es in
    omega arith

pub count_start : (v : ℕ) (es : List (ℕ × ℕ)) → count_by (λ (e : ℕ × ℕ). eqb e.1 v) es ≡ count_by (awaits [] v) es
count_start v [] = refl
count_start v (e ∷ es) = count_cons (λ (z : ℕ × ℕ). eqb z.1 v) e es ∙ ap (λ k. one (eqb e.1 v) + k) (count_start v es) ∙ sym (count_cons (awaits [] v) e es)

-- an element that is counted makes the count positive
pub counted : {X : Type 0} (p : X → Bool) (xs : List X) (x : X) → Contains xs x → p x ≡ true → 0 < count_by p xs
counted p [] x has is = absurd (nil_contains x has)
counted p (y ∷ ys) x has is =
    let more = count_cons p y ys in
    elim (cons_cases y x ys has) [
      | inl same ↦ let a : one (p y) ≡ 1 = ap (λ z. one (p z)) same ∙ ap one is in omega arith
      | inr there ↦ let rest = counted p ys x there is in omega arith
    ]

pub count_some : {X : Type 0} (p : X → Bool) (xs : List X) → 0 < count_by p xs → (x : X) × Contains xs x × (p x ≡ true)
count_some p [] some = absurd (omega arith)
count_some p (y ∷ ys) some =
    let more = count_cons p y ys in
    elim (cases_Bool (p y)) [
      | inl yes' ↦ (y, at_head y ys, yes')
      | inr no' ↦
          let a : one (p y) ≡ 0 = ap one no' in
          let r = count_some p ys (omega arith) in
          (r.0, in_tail y r.0 ys r.1, r.2)
    ]

and_both : (a b : Bool) → (a && b) ≡ true → (a ≡ true) × (b ≡ true)
and_both true b h = (refl, h)
and_both false b h = let bad : ⊥ = cc in absurd bad

-- where no edge to v is waited for, the sources of all are done
pub all_done : (done : List ℕ) (v p : ℕ) (es : List (ℕ × ℕ)) → count_by (awaits done v) es ≡ 0 → Contains es (p, v) → Contains done p
all_done done v p es none has =
    elim (cases_Bool (holds done p)) [
      | inl yes' ↦ contains_from_holds done p yes'
      | inr no' ↦
          let is : awaits done v (p, v) ≡ true = ap (λ h. not h && eqb v v) no' ∙ eq-eqb v v refl in
          let some = counted (awaits done v) es (p, v) has is in
          absurd (omega arith)
    ]

-- where an edge to v is waited for, one of them comes from a node that isn't done
pub not_done : (done : List ℕ) (v : ℕ) (es : List (ℕ × ℕ)) → 0 < count_by (awaits done v) es → (p : ℕ) × Contains es (p, v) × (Contains done p → ⊥)
not_done done v es some =
    let r = count_some (awaits done v) es some in
    let b = and_both (not (holds done r.0.0)) (eqb r.0.1 v) r.2 in
    let P : ℕ → Type 0 = λ z. Contains es (r.0.0, z) in (
      r.0.0,
      subst P (eqb-true r.0.1 v b.1) r.1,
      λ has.
          let t : not (holds done r.0.0) ≡ false = ap not (holds_from_contains done r.0.0 has) in
          both_ways (not (holds done r.0.0)) t b.0,
    )

pub from_take : (xs : List ℕ) (i x : ℕ) → Contains (take i xs) x → Contains xs x
from_take [] zero x c = c
from_take [] (suc i) x c = c
from_take (y ∷ ys) zero x c = absurd (nil_contains x c)
from_take (y ∷ ys) (suc i) x c =
    elim (cons_cases y x (take i ys) c) [
      | inl same ↦ let P : ℕ → Type 0 = λ z. Contains (y ∷ ys) z in subst P same (at_head y ys)
      | inr there ↦ in_tail y x ys (from_take ys i x there)
    ]

pub take_grows : (xs : List ℕ) (i j x : ℕ) → i ≤ j → Contains (take i xs) x → Contains (take j xs) x
take_grows [] zero zero x le c = c
take_grows [] zero (suc j) x le c = c
take_grows [] (suc i) zero x le c = c
take_grows [] (suc i) (suc j) x le c = c
take_grows (y ∷ ys) zero j x le c = absurd (nil_contains x c)
take_grows (y ∷ ys) (suc i) zero x le c = absurd (omega arith)
take_grows (y ∷ ys) (suc i) (suc j) x le c =
    elim (cons_cases y x (take i ys) c) [
      | inl same ↦ let P : ℕ → Type 0 = λ z. Contains (y ∷ take j ys) z in subst P same (at_head y (take j ys))
      | inr there ↦ in_tail y x (take j ys) (take_grows ys i j x (omega arith) there)
    ]

-- an element of the first ones stands at an earlier place
pub taken_at : (xs : List ℕ) (i x : ℕ) → Contains (take i xs) x → (k : ℕ) × (k < i) × (k < length xs) × (get_or xs k 0 ≡ x)
taken_at [] zero x c = absurd (nil_contains x c)
taken_at [] (suc i) x c = absurd (nil_contains x c)
taken_at (y ∷ ys) zero x c = absurd (nil_contains x c)
taken_at (y ∷ ys) (suc i) x c =
    elim (cons_cases y x (take i ys) c) [
      | inl same ↦ (0, omega arith, omega arith, same)
      | inr there ↦ let r = taken_at ys i x there in let a = r.1 in let b = r.2 in (suc r.0, omega arith, omega arith, r.3)
    ]
