use Rattle.loop_finder.proofs.Cycling.{reducible_cycles}
use Rattle.loop_finder.proofs.laws.reducible_cycles_are_loops.Goals as goal

pub returns : goal.returns
returns c = reducible_cycles c.cycles_take_back_edges.ensures c.graphs_are_moved.ensures.graphs
