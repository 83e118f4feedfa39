use Rattle.std.proofs.Common.{take}
use Rattle.loop_nest.proofs.Bodies.{AreFlagsOf}
use Rattle.loop_nest.proofs.finding.header_flags.Given as goal

abbrev pub invariant-loop-edge : goal.invariant-loop-edge
invariant-loop-edge l = AreFlagsOf l.g.nodes (take l.edge-index l.back_edges) l.flags.items
