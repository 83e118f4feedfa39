use Rattle.std.proofs.Common.{refl}
use Rattle.flow_graph.proofs.Growing.{grows_more, grows_push}
use Rattle.flow_graph.proofs.Catching.{IsPlaceEdge, edges_within}
use Rattle.flow_graph.proofs.handlers.add_within.Goals as goal

pub loop-i-preserved : goal.loop-i-preserved
loop-i-preserved c =
    let Q = IsPlaceEdge c.args.places.now c.first_from-first.result c.first_from-last.result c.args.handler in
    grows_more c.args.edges.now.items c.loop-i.edges.items c.push.new.self.items Q c.loop-i.i c.loop-i.invariant
    (grows_push c.loop-i.edges.items c.push.new.self.items _ (Q c.loop-i.i) c.in_ok-push.ensures.items (c.loop-i.auto.i, c.loop-i-test.true, refl) (λ e x. x.2))

pub returns : goal.returns
returns c = edges_within c.args.edges.now.items c.loop-i.edges.items c.args.places.now c.args.from c.args.to c.first_from-first.result c.first_from-last.result c.args.handler c.loop-i.i c.first_from-first.ensures c.first_from-last.ensures c.loop-i-test.false c.loop-i.invariant
