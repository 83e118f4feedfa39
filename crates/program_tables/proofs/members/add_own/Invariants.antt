use Rattle.std.proofs.Common.{◌≡◌, ◌++◌, take}
use Rattle.program_tables.specs.Members.{members_in, own_members}
use Rattle.program_tables.proofs.members.add_own.Given as goal

abbrev pub invariant-loop-i : goal.invariant-loop-i
invariant-loop-i l = l.places.items ≡ l.fn.places.items ++ own_members l.which l.number 0 (take l.i (members_in l.which l.class))
