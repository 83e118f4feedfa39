use Rattle.std.proofs.lemmas.Result.{on_ok_weaker}
use Rattle.flow_graph.proofs.Spanning.{are_pushed}
use Rattle.flow_graph.proofs.reach.push_targets.Goals as goal

pub returns : goal.returns
returns c = on_ok_weaker c.push_from.result (λ d. are_pushed c.args.edges.now c.args.spans.now c.args.node c.args.stack.now.items c.push_from.new.stack.items c.requires.spans c.requires.node d) c.push_from.ensures
