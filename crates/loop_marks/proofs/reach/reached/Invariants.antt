use Rattle.std.proofs.Common.{◌≡◌, ◌+◌, ◌*◌, false, suc, length, set}
use Rattle.loop_marks.specs.Reach.{IsSearch}
use Rattle.loop_marks.proofs.Searching.{unflagged}
use Rattle.loop_marks.proofs.reach.reached.Given as goal

abbrev pub invariant-loop-x : goal.invariant-loop-x
invariant-loop-x l = (l.flags.first ≡ l.allowed.first) × IsSearch l.g (set l.allowed.items l.without false) l.start l.stack.items l.flags.items

abbrev pub decreases-loop-x : goal.decreases-loop-x
decreases-loop-x l = unflagged l.flags.items * suc (length l.g.edges) + length l.stack.items
