use Rattle.std.proofs.Common.{take}
use Rattle.std.specs.List.{AllByRecursion}
use Rattle.class_pool.specs.Structure.{HasMemberRange}
use Rattle.class_file.proofs.checking.are_members.Given as goal

abbrev pub invariant-loop-member : goal.invariant-loop-member
invariant-loop-member l = AllByRecursion (HasMemberRange l.owner l.pool) (take l.member-index l.members)
