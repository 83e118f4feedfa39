use Rattle.std.proofs.Common.{take}
use Rattle.method_bounds.specs.Walking.{AreWalked, AreOrdered}
use Rattle.method_bounds.proofs.walk.next_left.Given as goal

abbrev pub invariant-loop-i : goal.invariant-loop-i
invariant-loop-i l = record { walked : AreWalked l.f l.states l.walked.items; before : AreOrdered l.f l.states (take l.i l.calls) }
