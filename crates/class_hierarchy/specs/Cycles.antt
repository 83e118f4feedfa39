-- Numbers to which others are added behind.
use Rattle.std.specs.Prelude.{◌≡◌, ℕ, ◌<◌, ◌≤◌, List, length, slice_index}

-- the old ones stand where they stood
pub record Grows (old new : List ℕ) : Type 0 where
  pub long : length old ≤ length new
  pub kept : (j : ℕ) → j < length old → slice_index new j ≡ slice_index old j
