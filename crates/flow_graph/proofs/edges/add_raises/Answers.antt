use Rattle.std.proofs.lemmas.Result.{on_ok_weaker}
use Rattle.flow_graph.proofs.Noting.{all_raising, handlers_near, places_near, places_rise, raising_is, starts_inside}
use Rattle.flow_graph.proofs.edges.add_raises.Goals as goal

pub raising-requires-clause-inside : goal.raising-requires-clause-inside
raising-requires-clause-inside c = starts_inside c.starts_follow_one_another.ensures c.args.m.now.code c.code-code.result.now c.args.starts.now c.code-code.ensures.code c.requires

pub add_raise_steps-requires : goal.add_raise_steps-requires
add_raise_steps-requires c =
    let code = c.args.m.now.code in
    places_near c.starts_follow_one_another.ensures code c.deref.result.now c.code-code.ensures.whole.short (raising_is code c.code-code.result.now c.args.starts.now c.in_ok-places.places.items c.deref.result.now c.code-code.ensures.code c.requires c.in_ok-places.ensures c.deref.ensures.value)

pub add_handlers-requires-clause-rising : goal.add_handlers-requires-clause-rising
add_handlers-requires-clause-rising c =
    let code = c.args.m.now.code in
    places_rise c.starts_follow_one_another.ensures code c.deref-2.result.now (raising_is code c.code-code.result.now c.args.starts.now c.in_ok-places.places.items c.deref-2.result.now c.code-code.ensures.code c.requires c.in_ok-places.ensures c.deref-2.ensures.value)

pub add_handlers-requires-clause-short : goal.add_handlers-requires-clause-short
add_handlers-requires-clause-short c =
    let code = c.args.m.now.code in
    places_near c.starts_follow_one_another.ensures code c.deref-2.result.now c.code-code.ensures.whole.short (raising_is code c.code-code.result.now c.args.starts.now c.in_ok-places.places.items c.deref-2.result.now c.code-code.ensures.code c.requires c.in_ok-places.ensures c.deref-2.ensures.value)

pub add_handlers-requires-clause-handlers : goal.add_handlers-requires-clause-handlers
add_handlers-requires-clause-handlers c = handlers_near c.starts_follow_one_another.ensures c.args.m.now c.ranges-ranges.result.now c.code-code.ensures.whole c.ranges-ranges.ensures.ranges

pub returns : goal.returns
returns c =
    let k = c.args.m.now in
    let is = c.in_ok-places.ensures in
    on_ok_weaker c.add_handlers.result (λ d. all_raising c.args.edges.now.items c.add_raise_steps.new.edges.items c.add_handlers.new.edges.items k c.deref.result.now c.deref-2.result.now c.ranges-ranges.result.now
    (raising_is k.code c.code-code.result.now c.args.starts.now c.in_ok-places.places.items c.deref.result.now c.code-code.ensures.code c.requires is c.deref.ensures.value)
    (raising_is k.code c.code-code.result.now c.args.starts.now c.in_ok-places.places.items c.deref-2.result.now c.code-code.ensures.code c.requires is c.deref-2.ensures.value)
    c.ranges-ranges.ensures.ranges c.in_ok-add_raise_steps.ensures d) c.add_handlers.ensures
