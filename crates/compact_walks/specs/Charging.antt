-- Which loops of a nest are charged, where it is said which ones may be: those around which there is no other of them.
use Rattle.std.specs.Prelude.{◌≡◌, ◌≢◌, ◌↔◌, ◌⊎◌, ℕ, ◌<◌, Bool, List, length, Contains}
use Rattle.loop_nest.specs.Nest.{NaturalLoop, IsAround, members_at, header_at}
use Rattle.path_solver.specs.Reaching.{IsFlagged}

-- loop i is one of these, and no other one is around it
pub record IsOutermostOf (nest : List NaturalLoop) (candidates : List Bool) (i : ℕ) : Type 0 where
  pub candidate : IsFlagged candidates i
  pub outermost : (k : ℕ) → IsAround nest i k → ¬ IsFlagged candidates k

-- exactly these loops are flagged
pub record AreOutermost (nest : List NaturalLoop) (candidates flags : List Bool) : Type 0 where
  pub long : length flags ≡ length nest
  pub each : (i : ℕ) → IsFlagged flags i ↔ IsOutermostOf nest candidates i

-- a loop that is flagged has the node
pub record IsInFlagged (nest : List NaturalLoop) (flags : List Bool) (u : ℕ) : Type 0 where
  pub index : ℕ
  pub below : index < length nest
  pub flagged : IsFlagged flags index
  pub inside : Contains (members_at nest index) u

-- the same, and it isn't the loop's header
pub record IsInnerIn (nest : List NaturalLoop) (flags : List Bool) (u : ℕ) : Type 0 where
  pub index : ℕ
  pub below : index < length nest
  pub flagged : IsFlagged flags index
  pub inside : Contains (members_at nest index) u
  pub not_header : header_at nest index ≢ u

-- for each of so many nodes whether a flagged loop has it, and not as its header
pub record AreInner (nest : List NaturalLoop) (flags : List Bool) (size : ℕ) (inner : List Bool) : Type 0 where
  pub long : length inner ≡ size
  pub each : (u : ℕ) → IsFlagged inner u ↔ IsInnerIn nest flags u

-- for each of so many numbers whether a flagged loop has the node of this number
pub record AreHeld (node : ℕ → ℕ) (nest : List NaturalLoop) (flags : List Bool) (size : ℕ) (held : List Bool) : Type 0 where
  pub long : length held ≡ size
  pub each : (x : ℕ) → IsFlagged held x ↔ ((u : ℕ) × IsInFlagged nest flags u × (node u ≡ x))

-- marks, once those of these numbers are set
pub record AreMarked (us : List ℕ) (old new : List Bool) : Type 0 where
  pub long : length new ≡ length old
  pub each : (u : ℕ) → IsFlagged new u ↔ (IsFlagged old u ⊎ Contains us u)

-- once they are set but for that of one
pub record AreMarkedBut (us : List ℕ) (out : ℕ) (old new : List Bool) : Type 0 where
  pub long : length new ≡ length old
  pub each : (u : ℕ) → IsFlagged new u ↔ (IsFlagged old u ⊎ (Contains us u × (out ≢ u)))
