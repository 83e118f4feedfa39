use Rattle.std.proofs.Common.{take}
use Rattle.class_hierarchy.specs.Marks.{HasMore}
use Rattle.class_hierarchy.proofs.Marking.{MembersMarked}
use Rattle.class_hierarchy.proofs.marks.mark_members.Given as goal

abbrev pub invariant-loop-member : goal.invariant-loop-member
invariant-loop-member l = HasMore l.initial.marks l.marks × MembersMarked l.classes l.class (take l.member-index l.members) l.marks
