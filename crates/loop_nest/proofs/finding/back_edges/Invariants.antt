use Rattle.std.proofs.Common.{ℕ, ◌↔◌, Contains, take}
use Rattle.loop_nest.specs.Walks.{IsBackEdge}
use Rattle.loop_nest.proofs.finding.back_edges.Given as goal

abbrev pub invariant-loop-i : goal.invariant-loop-i
invariant-loop-i l = (u v : ℕ) → Contains l.found.items (u, v) ↔ (Contains (take l.i l.edges) (u, v) × IsBackEdge l.g u v)
