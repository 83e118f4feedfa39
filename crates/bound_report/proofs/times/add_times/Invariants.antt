use Rattle.std.proofs.Common.{take}
use Rattle.bound_report.specs.Adding.{AreTimesAdded}
use Rattle.bound_report.proofs.times.add_times.Given as goal

abbrev pub invariant-loop-c : goal.invariant-loop-c
invariant-loop-c l = AreTimesAdded l.fn.times l.count (take l.c-index l.nodes) l.times
