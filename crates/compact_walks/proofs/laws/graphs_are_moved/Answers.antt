use Rattle.compact_walks.proofs.Walks.{graphs_are_moved, moved_is_renumbered}
use Rattle.compact_walks.proofs.laws.graphs_are_moved.Goals as goal

pub returns-clause-graphs : goal.returns-clause-graphs
returns-clause-graphs c = graphs_are_moved

pub returns-clause-renumbered : goal.returns-clause-renumbered
returns-clause-renumbered c = moved_is_renumbered
