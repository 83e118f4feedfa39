-- Lists in which no number stands twice.
use Rattle.std.proofs.Common.{◌≡◌, ℕ, zero, suc, ◌<◌, ◌≤◌, eqb, List, [], ◌∷◌, ◌++◌, length, get_or, Contains, sym, ◌∙◌, inl, inr, arith}
use Rattle.std.specs.List.{IsDistinct}
use Rattle.std.proofs.lemmas.Bool.{cases_lt, ne_eqb, eqb-true}
use Rattle.std.proofs.lemmas.Map.Keys.{IsDistinct-from_apart}
use Rattle.std.proofs.lemmas.Map.Steps.{length-le_from_distinct_below}
use Rattle.std.proofs.lemmas.Map.Views.{Contains-from_any}
use Rattle.std.proofs.lemmas.List.{get_or_append_left, get_or_push, length_push, get_or_default}
use Rattle.path_solver.specs.Ordering.{AreApart}

pub apart_push : (xs : List ℕ) (y : ℕ) → AreApart xs → (Contains xs y → ⊥) → AreApart (xs ++ y ∷ [])
apart_push xs y h out i j lt below same =
    let size = length_push xs y in
    let short : i < length xs = omega arith in
    let at_i : get_or (xs ++ y ∷ []) i 0 ≡ get_or xs i 0 = get_or_append_left xs (y ∷ []) 0 i short in
    elim (cases_lt j (length xs)) [
      | inl low ↦
          let at_j : get_or (xs ++ y ∷ []) j 0 ≡ get_or xs j 0 = get_or_append_left xs (y ∷ []) 0 j low in
          h i j lt low (sym at_i ∙ same ∙ at_j)
      | inr high ↦
          let at_j : get_or (xs ++ y ∷ []) j 0 ≡ y = get_or_push xs y 0 j (omega arith) in
          out (i, short, get_or_default xs i y 0 short ∙ sym at_i ∙ same ∙ at_j)
    ]

pub apart_none : AreApart []
apart_none i j lt below same = omega arith

pub apart_cons : (x : ℕ) (xs : List ℕ) → AreApart xs → (Contains xs x → ⊥) → AreApart (x ∷ xs)
apart_cons x xs h out zero zero lt below same = omega arith
apart_cons x xs h out zero (suc j) lt below same =
    let short : j < length xs = omega arith in
    out (j, short, get_or_default xs j x 0 short ∙ sym same)
apart_cons x xs h out (suc i) zero lt below same = omega arith
apart_cons x xs h out (suc i) (suc j) lt below same = h i j (omega arith) (omega arith) same

pub distinct : (xs : List ℕ) → AreApart xs → IsDistinct eqb xs
distinct xs h =
    IsDistinct-from_apart eqb xs (λ i j d lt below.
    ne_eqb (get_or xs i d) (get_or xs j d) (λ same. h i j lt below (get_or_default xs i 0 d (let e : i < length xs = omega arith in e) ∙ same ∙ get_or_default xs j d 0 below)))

-- numbers below n of which no two are equal are at most n
pub few_apart : (xs : List ℕ) (n : ℕ) → AreApart xs → ((x : ℕ) → Contains xs x → x < n) → length xs ≤ n
few_apart xs n h all = length-le_from_distinct_below xs n (distinct xs h) (λ q any. all q (Contains-from_any eqb-true q xs any))
