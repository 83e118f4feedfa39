use Rattle.std.proofs.Common.{◌≡◌, arith}
use Rattle.std.specs.Prelude.{pos}
use Rattle.std.proofs.lemmas.Int.{ints}
use Rattle.code_scan.specs.Naming.{case_places}
use Rattle.code_scan.proofs.Marking.{IsAt, marks_start, case_more, case_named, all_cases}
use Rattle.code_scan.proofs.naming.mark_cases.Goals as goal

pub loop-index-init : goal.loop-index-init
loop-index-init c = marks_start c.args.marks.now.items (IsAt (case_places c.args.code.now c.args.pc c.args.instr.now))

pub mark-requires : goal.mark-requires
mark-requires c = λ q e.
    let same : c.case_place-place.result ≡ pos q = omega (arith, ints, c.case_place-place.type_inv) in
    let inside = c.requires.inside q (case_named (case_places c.args.code.now c.args.pc c.args.instr.now) c.loop-index.index q c.case_place-place.result c.case_place-place.ensures same) in
    let long = c.loop-index.invariant.long in
    omega arith

pub loop-index-preserved : goal.loop-index-preserved
loop-index-preserved c =
    let fits = c.case_place-place.type_inv in
    case_more c.args.marks.now.items c.loop-index.marks.items c.mark.new.marks.items (case_places c.args.code.now c.args.pc c.args.instr.now) c.loop-index.index c.case_place-place.result c.case_place-place.ensures c.loop-index.invariant c.mark.ensures (omega (arith, ints))

pub returns : goal.returns
returns c = all_cases c.args.marks.now.items c.loop-index.marks.items c.args.code.now c.args.pc c.loop-index.index c.args.instr.now c.loop-index-test.false c.loop-index.invariant
