use Rattle.std.proofs.Common.{◌+◌, ◌*◌, suc, length}
use Rattle.loop_rules.specs.Further.Search.{IsSearch}
use Rattle.loop_rules.proofs.FurtherLemmas.Searching.{unflagged}
use Rattle.loop_rules.proofs.further.search.search.Given as goal

abbrev pub invariant-loop-x : goal.invariant-loop-x
invariant-loop-x g l = IsSearch l.g l.backs (g.S.Stops.stops_at l.stops) l.end l.stack.items l.flags.items l.found.items

abbrev pub decreases-loop-x : goal.decreases-loop-x
decreases-loop-x g l = unflagged l.flags.items * suc (length l.g.edges) + length l.stack.items
