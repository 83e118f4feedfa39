-- The sizes that are read at most.
use Rattle.std.specs.Prelude.{ℕ}

-- the most bytes of a file
abbrev pub longest_file : ℕ
longest_file = 33554432
