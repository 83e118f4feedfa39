use Rattle.std.specs.List.{list_all, range_with_len}
use Rattle.class_checks.specs.Marks.{AreKept}
use Rattle.class_checks.proofs.MarkLemmas.{passed}
use Rattle.class_checks.proofs.classes.implementing_classes.Given as goal

abbrev pub invariant-loop-upper : goal.invariant-loop-upper
invariant-loop-upper l = AreKept (λ c. list_all (passed l.classes c) (range_with_len 0 l.upper)) l.initial.marks.items l.marks.items
