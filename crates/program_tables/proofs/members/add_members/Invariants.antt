use Rattle.std.proofs.Common.{◌≡◌, ◌++◌, take}
use Rattle.program_tables.proofs.MemberLemmas.{all_own}
use Rattle.program_tables.proofs.members.add_members.Given as goal

abbrev pub invariant-loop-number : goal.invariant-loop-number
invariant-loop-number l = l.places.items ≡ l.fn.places.items ++ all_own l.which 0 (take l.number l.classes)
