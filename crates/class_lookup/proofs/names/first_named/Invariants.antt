use Rattle.std.proofs.Common.{take}
use Rattle.class_lookup.specs.Tables.{AreNamed}
use Rattle.class_lookup.proofs.names.first_named.Given as goal

abbrev pub invariant-loop-i : goal.invariant-loop-i
invariant-loop-i l = AreNamed l.classes (take l.i l.classes) l.named.items
