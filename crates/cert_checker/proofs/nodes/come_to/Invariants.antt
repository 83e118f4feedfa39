use Rattle.std.proofs.Common.{take}
use Rattle.cert_checker.proofs.Reaching.{AreTargets}
use Rattle.cert_checker.proofs.nodes.come_to.Given as goal

abbrev pub invariant-loop-edge : goal.invariant-loop-edge
invariant-loop-edge l = AreTargets l.g.nodes (take l.edge-index l.edge-items) l.flags.items
