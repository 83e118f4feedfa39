use Rattle.loop_nest.specs.Nesting.{KeepsOutline, HaveMembersBelow}
use Rattle.loop_nest.proofs.finding.add_members.Given as goal

abbrev pub invariant-loop-x : goal.invariant-loop-x
invariant-loop-x l = record {
  outline : KeepsOutline l.initial.loops l.loops;
  members : HaveMembersBelow l.g l.x l.loops;
}
