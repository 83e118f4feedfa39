use Rattle.std.proofs.Common.{◌∙◌}
use Rattle.std.proofs.lemmas.Result.{IfOk-weaker}
use Rattle.flow_graph.proofs.Noting.{all_true}
use Rattle.flow_graph.proofs.whole_graph.Goals as goal

pub returns-clause-graph : goal.returns-clause-graph
returns-clause-graph c =
    let k = c.args.m.now in
    let goes = c.deref.result.now in
    let all = all_true k.calls c.calls-calls.result.now goes c.calls-calls.ensures.calls (c.deref.ensures.value ∙ c.in_ok-goes.ensures.items_if_clones_equal (λ y h. h)) in
    IfOk-weaker c.graph_where.result _ _ (λ g h P n of. c.graphs_where_all_go_on.ensures P n k.calls goes g all (h P n of)) c.graph_where.ensures.graph
