use Rattle.std.proofs.Common.{◌+◌, ◌*◌, suc, length}
use Rattle.loop_nest.specs.Search.{IsSearch, IsMarkedWith}
use Rattle.loop_nest.proofs.Searching.{unmarked}
use Rattle.loop_nest.proofs.members.mark.Given as goal

abbrev pub invariant-loop-x : goal.invariant-loop-x
invariant-loop-x l = record {
  search : IsSearch l.g l.h l.starts l.number l.stack.items l.marks;
  marked : IsMarkedWith l.number l.fn.marks l.marks;
}

abbrev pub decreases-loop-x : goal.decreases-loop-x
decreases-loop-x l = unmarked l.number l.marks * suc (length l.g.edges) + length l.stack.items
