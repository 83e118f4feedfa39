use Rattle.std.proofs.Common.{◌≡◌, ℕ, ◌<◌, ◌≤◌, Some}
use Rattle.std.specs.Prelude.{slice_get}
use Rattle.call_regions.specs.Walking.{IsDone}
use Rattle.call_regions.proofs.walk.first_left.Given as goal

abbrev pub invariant-loop-j : goal.invariant-loop-j
invariant-loop-j l = (i t : ℕ) → l.from ≤ i → i < l.j → slice_get l.targets i ≡ Some t → IsDone l.states t
