use Rattle.std.proofs.Common.{◌*◌, map, take}
use Rattle.compact_walks.specs.Charging.{AreMarked}
use Rattle.bound_finder.proofs.charges.mark_calls.Given as goal

abbrev pub invariant-loop-call : goal.invariant-loop-call
invariant-loop-call l = AreMarked (map (λ c. 2 * c.place) (take l.call-index l.calls)) l.fn.flags l.flags
