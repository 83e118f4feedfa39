-- Flags of nodes, and how some more of them are set.
use Rattle.std.specs.Prelude.{◌≡◌, ◌↔◌, ◌⊎◌, ℕ, Bool, true, List, length, Contains}
use Rattle.loop_marks.specs.Reach.{flag_at}

-- for each node a flag, of which none before a first node is set
pub record Flags : Type 0 where
  pub first : ℕ
  pub items : List Bool

-- flags, once those of these nodes are set that are flagged as members
pub record AreMarkedAmong (members : List Bool) (us : List ℕ) (old new : List Bool) : Type 0 where
  pub long : length new ≡ length old
  pub each : (x : ℕ) → (flag_at new x ≡ true) ↔ ((flag_at old x ≡ true) ⊎ ((flag_at members x ≡ true) × Contains us x))
