use Rattle.std.proofs.Common.{take}
use Rattle.method_bounds.specs.Answering.{AreWritten}
use Rattle.method_bounds.proofs.answers.write_all.Given as goal

abbrev pub invariant-loop-i : goal.invariant-loop-i
invariant-loop-i l = AreWritten (take l.i l.order) l.bounds l.fn.answers l.answers
