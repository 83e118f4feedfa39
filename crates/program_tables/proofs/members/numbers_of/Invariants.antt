use Rattle.std.proofs.Common.{take}
use Rattle.program_tables.specs.Members.{AreNumbered}
use Rattle.program_tables.proofs.members.numbers_of.Given as goal

abbrev pub invariant-loop-i : goal.invariant-loop-i
invariant-loop-i l = AreNumbered l.numbers.entries (take l.i l.places)
