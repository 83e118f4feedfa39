-- Marks of numbers, which are taken away.
use Rattle.std.specs.Prelude.{◌≡◌, ℕ, Bool, false, ◌&&◌, List, length, slice_index_or}

-- of those that were marked, just those are marked still of which this holds
pub record AreKept (holds : ℕ → Bool) (old new : List Bool) : Type 0 where
  pub long : length new ≡ length old
  pub each : (c : ℕ) → slice_index_or new c false ≡ (slice_index_or old c false && holds c)
