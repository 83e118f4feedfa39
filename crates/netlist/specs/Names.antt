-- Names that stand once.
use Rattle.std.specs.Prelude.{◌≢◌, ℕ, ◌<◌, List, [], length, slice_index_or}

-- no later name is that at place k
abbrev pub IsLast : List (List ℕ) → ℕ → Type 0
IsLast names k = (j : ℕ) → k < j → j < length names → slice_index_or names k [] ≢ slice_index_or names j []
