use Rattle.std.proofs.Common.{take}
use Rattle.loop_acts.specs.Writing.{AreWriters}
use Rattle.loop_acts.proofs.writing.writers.Given as goal

abbrev pub invariant-loop-node : goal.invariant-loop-node
invariant-loop-node l = AreWriters l.acts (take l.node-index l.nodes) l.found.items
