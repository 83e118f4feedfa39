use Rattle.std.proofs.Common.{◌||◌, not, take}
use Rattle.class_lookup.specs.Hierarchy.{is_among}
use Rattle.program_tables.specs.Unresolved.{is_implemented}
use Rattle.class_checks.specs.Marks.{AreKept}
use Rattle.class_checks.proofs.marks.keep_marks.Given as goal

abbrev pub invariant-loop-i : goal.invariant-loop-i
invariant-loop-i l = AreKept (λ c. not (is_among (take l.i l.lower) c) || is_implemented l.classes c l.fn.method) l.initial.marks.items l.marks.items
