use Rattle.std.proofs.Common.{arith}
use Rattle.loop_nest.proofs.Ends.{ends_within}
use Rattle.loop_finder.proofs.Traced.{looked, traced_ends, traced_first, traced_on, traced_stops}
use Rattle.loop_finder.proofs.setting.writes_before.Goals as goal

pub loop-step-init : goal.loop-step-init
loop-step-init c = traced_first c.args.acts.now c.args.routes.now c.args.from c.new-places.result.items c.new-places.ensures.items c.requires

pub only_source-requires : goal.only_source-requires
only_source-requires c = c.loop-step.invariant.below

pub loop-step-preserved : goal.loop-step-preserved
loop-step-preserved c =
    let acts = c.args.acts.now in
    let g = c.args.routes.now in
    let node = c.loop-step.node in
    let places = c.add_write.new.places.items in
    let valid = c.nodes-step-end.ensures.valid in
    let source = c.in-Some.ensures in
    let k = looked acts g c.args.from node c.loop-step._step c.loop-step.places.items c.loop-step.invariant places c.in_ok-add_write.ensures in
    traced_on acts g c.args.from node c.loop-step._step places k c.in-Some.source valid source (ends_within valid c.in-Some.source node source.edge).0

pub returns-in-None : goal.returns-in-None
returns-in-None c =
    let acts = c.args.acts.now in
    let g = c.args.routes.now in
    let node = c.loop-step.node in
    let places = c.add_write.new.places.items in
    let k = looked acts g c.args.from node c.loop-step._step c.loop-step.places.items c.loop-step.invariant places c.in_ok-add_write.ensures in
    traced_stops acts g c.args.from node c.loop-step._step places k c.in-None.ensures

pub returns : goal.returns
returns c =
    let all = c.loop-step-test.false in
    traced_ends c.args.acts.now c.args.routes.now c.args.from c.loop-step.node c.loop-step._step c.loop-step.places.items c.nodes-step-end.ensures.valid c.requires c.loop-step.invariant
    (omega (arith, c.nodes-step-end.ensures.nodes))
