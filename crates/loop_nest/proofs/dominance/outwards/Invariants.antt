use Rattle.std.proofs.Common.{◌+◌, ◌*◌, suc, length}
use Rattle.loop_nest.specs.Order.{IsOutward}
use Rattle.loop_nest.proofs.Outward.{unseen}
use Rattle.loop_nest.proofs.dominance.outwards.Given as goal

abbrev pub invariant-loop-u : goal.invariant-loop-u
invariant-loop-u l = IsOutward l.g l.order.items l.stack.items l.seen

abbrev pub decreases-loop-u : goal.decreases-loop-u
decreases-loop-u l = unseen l.seen * suc (length l.g.edges) + length l.stack.items
