use Rattle.loop_nest.specs.Grouping.{ArePlaced}
use Rattle.loop_nest.proofs.digraph.placed.Given as goal

abbrev pub invariant-loop-edge : goal.invariant-loop-edge
invariant-loop-edge l = ArePlaced l.edges l.nodes l.edge-index l.next.items l.placed.items
