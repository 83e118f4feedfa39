-- Lists of numbers, and what is reached from a number by going on to those directly above.
use Rattle.std.specs.Prelude.{◌≡◌, ℕ, zero, suc, ◌<◌, Bool, ◌==◌, List, [], ◌∷◌, map, Option, slice_index_or, IsTrue}
use Rattle.std.specs.List.{flat_map, list_any}
use Rattle.lists.specs.Lists.{first_some}

abbrev pub is_among : List ℕ → (number : ℕ) → Bool
is_among numbers d = list_any (λ k. k == d) numbers

-- a number, then those directly above it in order, each with all above it before the next; over at most so many numbers upwards
abbrev pub reached : (above : ℕ → List ℕ) → (most : ℕ) → (number : ℕ) → List ℕ
reached above zero c = []
reached above (suc n) c = c ∷ flat_map (reached above n) (above c)

-- what the table has for a number; nothing beyond its end
abbrev pub entry : (table : List (List ℕ)) → (number : ℕ) → List ℕ
entry table c = slice_index_or table c []

-- whatever is searched, the first that is found in one list is the first that is found in the other
abbrev pub IsSameSearch : List ℕ → List ℕ → Type 0
IsSameSearch xs ys = (find : ℕ → Option (ℕ × ℕ)) → first_some (map find xs) ≡ first_some (map find ys)

-- each number has a rank below the greatest, and a greater one than those directly above it
pub record Falls (above : ℕ → List ℕ) (rank : ℕ → ℕ) (most : ℕ) : Type 0 where
  pub bounded : (c : ℕ) → rank c < most
  pub falls : (c d : ℕ) → IsTrue (is_among (above c) d) → rank d < rank c
