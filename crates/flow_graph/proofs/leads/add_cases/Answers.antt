use Rattle.std.proofs.Common.{◌≡◌, refl, arith}
use Rattle.std.specs.Prelude.{pos}
use Rattle.std.proofs.lemmas.Int.{ints}
use Rattle.flow_graph.specs.Naming.{case_places}
use Rattle.flow_graph.proofs.Growing.{grows_start}
use Rattle.flow_graph.proofs.Leading.{IsCaseEdge, case_more, case_named, all_cases}
use Rattle.flow_graph.proofs.leads.add_cases.Goals as goal

pub loop-index-init : goal.loop-index-init
loop-index-init c = grows_start c.args.edges.now.items c.args.edges.now.items (IsCaseEdge (case_places c.args.code.now c.args.pc c.args.instr.now) c.args.pc) refl

pub add_edge-requires-clause-target : goal.add_edge-requires-clause-target
add_edge-requires-clause-target c = λ q e.
    let same : c.case_place-place.result ≡ pos q = omega (arith, ints, c.case_place-place.type_inv) in
    c.requires.targets q (case_named (case_places c.args.code.now c.args.pc c.args.instr.now) c.loop-index.index q c.case_place-place.result c.case_place-place.ensures same)

pub loop-index-preserved : goal.loop-index-preserved
loop-index-preserved c =
    let fits = c.case_place-place.type_inv in
    case_more c.args.edges.now.items c.loop-index.edges.items c.add_edge.new.edges.items (case_places c.args.code.now c.args.pc c.args.instr.now) c.args.pc c.loop-index.index c.case_place-place.result c.case_place-place.ensures c.loop-index.invariant c.in_ok-add_edge.ensures (omega (arith, ints))

pub returns : goal.returns
returns c = all_cases c.args.edges.now.items c.loop-index.edges.items c.args.code.now c.args.pc c.loop-index.index c.args.instr.now c.loop-index-test.false c.loop-index.invariant
