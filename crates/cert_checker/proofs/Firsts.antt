-- The first of a list that rises, among those with a property.
use Rattle.std.proofs.Common.{◌≡◌, ℕ, ◌<◌, List, length, get_or, sym, subst, inl, inr, arith}
use Rattle.std.specs.List.Sorted.{IsNonDecreasingBy}
use Rattle.std.proofs.lemmas.Bool.{cases_lt}

-- where the numbers of a list's elements rise, and none before place i has the property, that of the element at place i is the least one
pub least_at : {X : Type 0} (n : X → ℕ) (xs : List X) (P : ℕ → Type 0) (i : ℕ) (d : X) → IsNonDecreasingBy n xs → i < length xs → ((k : ℕ) → k < i → ¬ P (n (get_or xs k d))) → (k u : ℕ) → k < length xs → n (get_or xs k d) ≡ u → u < n (get_or xs i d)
    → ¬ P u
least_at n xs P i d rise below before k u there same less p =
    elim (cases_lt k i) [
      | inl lt ↦ before k lt (subst P (sym same) p)
      | inr ge ↦ let up = rise i k d ge there in omega arith
    ]
