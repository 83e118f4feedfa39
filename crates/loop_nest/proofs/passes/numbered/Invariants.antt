use Rattle.std.proofs.Common.{◌≡◌, ◌↔◌, ℕ, ◌<◌, Contains}
use Rattle.loop_nest.specs.Entered.{edge_at}
use Rattle.loop_nest.proofs.passes.numbered.Given as goal

abbrev pub invariant-loop-i : goal.invariant-loop-i
invariant-loop-i l = (i v : ℕ) → Contains l.numbered.items (i, v) ↔ ((i < l.i) × ((edge_at l.edges i).1 ≡ v))
