use Rattle.std.proofs.Common.{take}
use Rattle.path_solver.specs.Ordering.{AreCountedDown}
use Rattle.path_solver.proofs.ordering.count_down.Given as goal

abbrev pub invariant-loop-v : goal.invariant-loop-v
invariant-loop-v l = AreCountedDown (take l.v-index l.targets) l.fn.waiting l.waiting l.fn.order.items l.order.items
