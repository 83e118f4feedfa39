-- Marks of numbers.
use Rattle.std.specs.Prelude.{◌≡◌, ℕ, Bool, true, false, List, slice_index_or, IsTrue}
use Rattle.lists.specs.Numbers.{is_among}

-- each marked number is among them
abbrev pub AreAmong : (marks : List Bool) → List ℕ → Type 0
AreAmong marks xs = (x : ℕ) → slice_index_or marks x false ≡ true → IsTrue (is_among xs x)
