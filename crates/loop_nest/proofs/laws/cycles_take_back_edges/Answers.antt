use Rattle.loop_nest.proofs.Ends.{cycles_take_back_edges}
use Rattle.loop_nest.proofs.laws.cycles_take_back_edges.Goals as goal

pub returns : goal.returns
returns c = cycles_take_back_edges
