use Rattle.std.proofs.Common.{refl}
use Rattle.flow_graph.proofs.Growing.{grows_more, grows_push}
use Rattle.flow_graph.proofs.Noting.{IsStepEdge, all_steps}
use Rattle.flow_graph.proofs.edges.add_raise_steps.Goals as goal

pub loop-place-preserved : goal.loop-place-preserved
loop-place-preserved c =
    let Q = IsStepEdge c.args.places.now in
    grows_more c.args.edges.now.items c.loop-place.edges.items c.push.new.self.items Q c.loop-place.place-index c.loop-place.invariant
    (grows_push c.loop-place.edges.items c.push.new.self.items _ (Q c.loop-place.place-index) c.in_ok-push.ensures.items (c.loop-place-test.true, refl) (λ e x. x.1))

pub returns : goal.returns
returns c = all_steps c.args.edges.now.items c.loop-place.edges.items c.args.places.now c.loop-place.place-index c.loop-place-test.false c.loop-place.invariant
