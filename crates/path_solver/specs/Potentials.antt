-- The listed nodes with what is left of the value where walks have come to them.
use Rattle.std.specs.Prelude.{◌≡◌, ℕ, ℤ, pos, ◌-ℤ◌, List, Bool, Some, None, slice_index}
use Rattle.std.specs.List.Sorted.{IsStrictlyIncreasing}
use Rattle.section_check.specs.Section.{potential, listed}
use Rattle.path_solver.specs.Reaching.{IsFlagged}

-- exactly the flagged nodes are listed, rising, each with the value less its distance
pub record AreLeft (flags : List Bool) (value : ℕ) (dist : List ℕ) (nodes : List (ℕ × ℤ)) : Type 0 where
  pub rising : IsStrictlyIncreasing (listed nodes)
  pub each : (u : ℕ) → IsFlagged flags u → potential nodes u ≡ Some (pos value -ℤ pos (slice_index dist u))
  pub others : (u : ℕ) → ¬ IsFlagged flags u → potential nodes u ≡ None
