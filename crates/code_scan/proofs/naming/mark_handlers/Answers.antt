use Rattle.std.proofs.Common.{◌<◌, true, length, get_or, refl, arith}
use Rattle.std.proofs.Math.ListN.{set}
use Rattle.code_scan.proofs.Marking.{HandledAt, marks_start, one_set, handler_more, all_handlers, none}
use Rattle.code_scan.proofs.naming.mark_handlers.Goals as goal

pub loop-range-init : goal.loop-range-init
loop-range-init c = marks_start c.args.marks.now.items (HandledAt c.args.ranges.now)

pub loop-range-preserved : goal.loop-range-preserved
loop-range-preserved c =
    let rs = c.args.ranges.now in
    let i = c.loop-range.range-index in
    let ms = c.loop-range.marks.items in
    let place = (get_or rs i none).handler in
    let fits = c.requires i none c.loop-range-test.true in
    let long = c.loop-range.invariant.long in
    let inside : place < length ms = omega arith in
    handler_more c.args.marks.now.items ms (set ms place true) rs i c.loop-range-test.true c.loop-range.invariant (one_set ms (set ms place true) place inside refl)

pub returns : goal.returns
returns c = all_handlers c.args.marks.now.items c.loop-range.marks.items c.args.ranges.now c.loop-range.range-index c.loop-range-test.false c.loop-range.invariant
