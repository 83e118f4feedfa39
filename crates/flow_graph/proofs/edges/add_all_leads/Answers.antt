use Rattle.flow_graph.proofs.Noting.{calls_inside}
use Rattle.flow_graph.proofs.edges.add_all_leads.Goals as goal

pub going_on-requires-clause-within : goal.going_on-requires-clause-within
going_on-requires-clause-within c = calls_inside c.starts_follow_one_another.ensures c.args.m.now c.code-code.result.now c.calls-calls.result.now c.code-code.ensures.whole c.code-code.ensures.code c.calls-calls.ensures.calls
