use Rattle.std.proofs.Common.{take}
use Rattle.loop_nest.specs.Digraph.{AreArrivals}
use Rattle.loop_nest.proofs.digraph.arrivals.Given as goal

abbrev pub invariant-loop-edge : goal.invariant-loop-edge
invariant-loop-edge l = AreArrivals (take l.edge-index l.edges) l.nodes l.counts.items
