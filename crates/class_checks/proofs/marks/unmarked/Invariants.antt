use Rattle.std.proofs.Common.{take}
use Rattle.class_checks.proofs.MarkLemmas.{IsLeft}
use Rattle.class_checks.proofs.marks.unmarked.Given as goal

abbrev pub invariant-loop-class : goal.invariant-loop-class
invariant-loop-class l = IsLeft (take l.class-index l.lower) l.marks l.found.items
