use Rattle.std.proofs.Common.{◌+◌, ◌*◌, suc, length}
use Rattle.fact_names.specs.Reach.{IsSearch}
use Rattle.fact_names.proofs.Searching.{total, unflagged}
use Rattle.fact_names.proofs.reach.led_to.Given as goal

abbrev pub invariant-loop-x : goal.invariant-loop-x
invariant-loop-x l = IsSearch l.next l.barred l.start l.stack.items l.flags.items

abbrev pub decreases-loop-x : goal.decreases-loop-x
decreases-loop-x l = unflagged l.flags.items * suc (total l.next) + length l.stack.items
