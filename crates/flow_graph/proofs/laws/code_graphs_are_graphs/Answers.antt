use Rattle.flow_graph.proofs.Joining.{is_graph}
use Rattle.flow_graph.proofs.laws.code_graphs_are_graphs.Goals as goal

pub returns : goal.returns
returns c = λ P n k goes g coded of h. is_graph c.starts_follow_one_another.ensures c.rows_are_of_their_kinds.ensures P n k goes coded of g h
