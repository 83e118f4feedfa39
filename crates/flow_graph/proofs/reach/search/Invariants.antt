use Rattle.std.proofs.Common.{◌+◌, ◌*◌, suc, length}
use Rattle.flow_graph.specs.Reach.{IsSearch}
use Rattle.flow_graph.proofs.Searching.{unflagged}
use Rattle.flow_graph.proofs.reach.search.Given as goal

abbrev pub invariant-loop-x : goal.invariant-loop-x
invariant-loop-x l = IsSearch l.edges l.nodes l.stack.items l.flags.items

abbrev pub decreases-loop-x : goal.decreases-loop-x
decreases-loop-x l = unflagged l.flags.items * suc (length l.edges) + length l.stack.items
