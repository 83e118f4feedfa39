-- Lists of numbers of one length, which are made one after another.
use Rattle.std.specs.Prelude.{◌≡◌, ◌≢◌, ℕ, ◌-◌, ◌<◌, ◌≤◌, List, [], ◌∷◌, ◌++◌, length, get_or, replicate, slice_get, slice_set, Option, Some, None}
use Rattle.std.specs.Option.{option_map_or}

-- the length of each list, the number behind the items that were given for one, the lists, each at its number, and pairs of lists of which it is
-- known that a test passes wherever they differ
pub record ListTable : Type 0 where
  pub width : ℕ
  pub rest : ℕ
  pub lists : List (List ℕ)
  pub known : List (List ℕ × List ℕ)

-- with one list more, behind the others
abbrev pub with_list : ListTable → List ℕ → ListTable
with_list t xs = record t { lists = t.lists ++ xs ∷ [] }

-- with these pairs known
abbrev pub with_known : ListTable → List (List ℕ × List ℕ) → ListTable
with_known t pairs = record t { known = pairs }

-- these items, and the rest behind them
abbrev pub filled : ListTable → List ℕ → List ℕ
filled t items = items ++ replicate (t.width - length items) t.rest

-- the list of a number; the empty one where there is none
abbrev pub list_at : ListTable → (number : ℕ) → List ℕ
list_at t n = get_or t.lists n []

-- a list with another item at an index, where it has one; the list of the rest alone where there is no such list
abbrev pub changed_list : ListTable → (number index item : ℕ) → List ℕ
changed_list t n i x = option_map_or (λ xs. slice_set xs i x) (slice_get t.lists n) (filled t [])

-- the least index from `from` on at which two lists differ, if they do
abbrev pub IsDifference : (xs ys : List ℕ) → (from : ℕ) → Option ℕ → Type 0
IsDifference xs ys from None = (i : ℕ) → from ≤ i → slice_get xs i ≡ slice_get ys i
IsDifference xs ys from (Some k) =
    (from ≤ k) × (slice_get xs k ≢ slice_get ys k) × ((i : ℕ) → from ≤ i → i < k → slice_get xs i ≡ slice_get ys i)

-- the least index from `from` on that holds the item, if one does
abbrev pub IsPosition : List ℕ → (item from : ℕ) → Option ℕ → Type 0
IsPosition xs item from None = (i : ℕ) → from ≤ i → slice_get xs i ≢ Some item
IsPosition xs item from (Some k) =
    (from ≤ k) × (slice_get xs k ≡ Some item) × ((i : ℕ) → from ≤ i → i < k → slice_get xs i ≢ Some item)
