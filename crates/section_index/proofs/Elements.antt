-- The elements of lists, and the sources of edges.
use Rattle.std.proofs.Common.{◌≡◌, ℕ, zero, suc, ◌<◌, ◌≤◌, ◌⊎◌, Bool, true, false, cond, eqb, List, [], ◌∷◌, length, get_or, map, filter, Contains, refl, sym, ap, ◌∙◌, subst, inl, inr, arith}
use Rattle.std.specs.List.Sorted.{IsStrictlyIncreasing}
use Rattle.std.proofs.lemmas.Bool.{cases_lt, cases_eq, cases_order, cases_Bool, eq-eqb, eqb-true}
use Rattle.std.proofs.lemmas.List.{get_or_default}
use Rattle.std.proofs.lemmas.List.Kept.{AllPairs-from_increasing}
use Rattle.loop_nest.specs.Digraph.{sources_of}

-- and lower at lower places
pub lower_place : (xs : List ℕ) → IsStrictlyIncreasing xs → (p q : ℕ) → p < length xs → q < length xs → get_or xs p 0 < get_or xs q 0 → p < q
lower_place xs rise p q lp lq less =
    elim (cases_order p q) [
      | inl e ↦ let same = ap (λ k. get_or xs k 0) e in absurd (omega arith)
      | inr other ↦
          elim other [
            | inl low ↦ low
            | inr more ↦ let up = AllPairs-from_increasing xs rise q p 0 more lp in absurd (omega arith)
          ]
    ]

-- and at least their places
pub above_place : (xs : List ℕ) → IsStrictlyIncreasing xs → (p : ℕ) → p < length xs → p ≤ get_or xs p 0
above_place xs rise zero lt = omega arith
above_place xs rise (suc p) lt =
    let below = above_place xs rise p (omega arith) in
    let up = AllPairs-from_increasing xs rise p (suc p) 0 (omega arith) lt in
    omega arith
