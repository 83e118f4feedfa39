use Rattle.std.proofs.Common.{◌≡◌, ℕ, ◌<◌, length}
use Rattle.std.specs.Prelude.{◌↔◌}
use Rattle.path_solver.specs.Reaching.{IsFlagged}
use Rattle.compact_walks.specs.Charging.{IsOutermostOf}
use Rattle.compact_walks.proofs.charging.outermost_but.Given as goal

abbrev pub invariant-loop-i : goal.invariant-loop-i
invariant-loop-i l = (length l.flags.items ≡ l.i) × ((k : ℕ) → k < l.i → IsFlagged l.flags.items k ↔ IsOutermostOf l.loops l.candidates k)
