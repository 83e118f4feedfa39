use Rattle.memory_bound.proofs.CausesOne.{not_both}
use Rattle.memory_bound.proofs.laws.leaves_nodes_or_none.Goals as goal

pub returns : goal.returns
returns c = not_both c.graphs_are_moved.ensures.graphs c.parts_are_sound.ensures c.ends_are_one.ensures c.graphs_are_one.ensures.whole
