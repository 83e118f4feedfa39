-- Marks of places.
use Rattle.std.specs.Prelude.{◌≡◌, ◌⊎◌, ◌↔◌, ℕ, Bool, true, false, List, length, slice_index_or}

abbrev pub mark_at : List Bool → ℕ → Bool
mark_at marks q = slice_index_or marks q false

-- the new marks are the old ones, and those of the places of which this holds
pub record Marks (old new : List Bool) (Adds : ℕ → Type 0) : Type 0 where
  pub long : length new ≡ length old
  pub each : (q : ℕ) → (mark_at new q ≡ true) ↔ ((mark_at old q ≡ true) ⊎ Adds q)
