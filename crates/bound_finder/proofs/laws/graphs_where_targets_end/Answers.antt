use Rattle.bound_finder.proofs.Turning.{graphs_where_targets_end}
use Rattle.bound_finder.proofs.laws.graphs_where_targets_end.Goals as goal

pub returns : goal.returns
returns c = graphs_where_targets_end c.starts_follow_one_another.ensures c.rows_are_of_their_kinds.ensures
