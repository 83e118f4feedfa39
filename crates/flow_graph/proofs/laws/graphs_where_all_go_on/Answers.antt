use Rattle.flow_graph.proofs.Joining.{where_all_go_on}
use Rattle.flow_graph.proofs.laws.graphs_where_all_go_on.Goals as goal

pub returns : goal.returns
returns c = λ P n calls goes g all h. where_all_go_on P n calls goes g all h
