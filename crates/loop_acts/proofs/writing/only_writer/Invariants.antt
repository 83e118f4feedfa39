use Rattle.std.proofs.Common.{take}
use Rattle.loop_acts.specs.Writing.{IsOnly, IsWriterAmong}
use Rattle.loop_acts.proofs.writing.only_writer.Given as goal

abbrev pub invariant-loop-node : goal.invariant-loop-node
invariant-loop-node l = IsOnly (IsWriterAmong l.acts (take l.node-index l.nodes) l.local) l.found
