-- The elements of a list, case by case.
use Rattle.std.proofs.Common.{◌≡◌, ℕ, zero, suc, ◌<◌, ◌⊎◌, true, List, [], ◌∷◌, length, get_or, map, Contains, refl, subst, inl, inr, arith}
use Rattle.std.proofs.lemmas.Bool.{cases_eq, eq-eqb, eqb-true, or_cases, or_left, or_right}
use Rattle.lists.specs.Members.{at_head, in_tail, cons_cases, nil_contains}
use Rattle.section_check.specs.Bounded.{holds}

pub contains_from_holds : (ms : List ℕ) (u : ℕ) → holds ms u ≡ true → Contains ms u
contains_from_holds [] u h = let bad : ⊥ = cc in absurd bad
contains_from_holds (m ∷ ms) u h =
    elim (or_cases _ _ h) [
      | inl here ↦ let P : ℕ → Type 0 = λ y. Contains (m ∷ ms) y in subst P (eqb-true m u here) (at_head m ms)
      | inr there ↦ in_tail m u ms (contains_from_holds ms u there)
    ]

pub holds_from_contains : (ms : List ℕ) (u : ℕ) → Contains ms u → holds ms u ≡ true
holds_from_contains [] u c = absurd (nil_contains u c)
holds_from_contains (m ∷ ms) u c =
    elim (cons_cases m u ms c) [
      | inl same ↦ or_left _ _ (eq-eqb m u same)
      | inr there ↦ or_right _ _ (holds_from_contains ms u there)
    ]
