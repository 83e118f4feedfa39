-- Types that have numbers, and lists of these numbers.
-- For contracts within this crate alone: no public contract's meaning rests on this file.
use Rattle.std.specs.Prelude.{◌≡◌, ◌≢◌, ℕ, ◌<◌, ◌≤◌, ◌^◌, List, ◌++◌, length, map, get_or, slice_get, Option, Some, None, All}
use Rattle.persistent_lists.specs.Tables.{ListTable}
use Rattle.bytecode_typing.specs.Types as typing
use Rattle.verifier_types.specs.Seen.{type_seen}
use Rattle.verifier_types.specs.declared.types.VarType.{VarType}
use Rattle.verifier_types.specs.declared.types.VarType.TheVariants.{Top}

-- the type of a number; Top where there is none
abbrev pub type_numbered : List VarType → (number : ℕ) → VarType
type_numbered types n = get_or types n Top

abbrev pub lists_numbered : List VarType → List (List ℕ) → List (List typing.VarType)
lists_numbered types lists = map (map (λ n. type_seen (type_numbered types n))) lists

-- Top has the number of the rest, and each item is the number of a type
abbrev pub AreNumbered : List VarType → ListTable → Type 0
AreNumbered types t = (t.rest ≡ 0) × (slice_get types 0 ≡ Some Top) × (t.width < 2 ^ 16) × All (All (λ n. n < length types)) t.lists

-- the types of the second list are those of the first, and more
abbrev pub Grows : (old new : List VarType) → Type 0
Grows old new = (more : List VarType) × (new ≡ old ++ more)

abbrev pub IsNumberOf : List VarType → VarType → (number : ℕ) → Type 0
IsNumberOf types t n = (n < length types) × (type_numbered types n ≡ t)

-- it is the number of the type, which has no other; none where the type has no number
abbrev pub IsOnlyNumber : List VarType → VarType → Option ℕ → Type 0
IsOnlyNumber types t number = (n : ℕ) → n < length types → type_numbered types n ≡ t → number ≡ Some n

-- each is the number of the type at its place
abbrev pub AreNumbersOf : List VarType → (locals : List VarType) → (numbers : List ℕ) → Type 0
AreNumbersOf types locals numbers = All (λ n. n < length types) numbers × (map (type_numbered types) numbers ≡ locals)

-- the list has the item nowhere from an index on, up to the second one if there is one
abbrev pub HoldsUpTo : {A : Type 0} → List A → A → (from : ℕ) → Option ℕ → Type 0
HoldsUpTo xs t from None = (i : ℕ) → from ≤ i → slice_get xs i ≢ Some t
HoldsUpTo xs t from (Some k) = (from ≤ k) × ((i : ℕ) → from ≤ i → i < k → slice_get xs i ≢ Some t)
