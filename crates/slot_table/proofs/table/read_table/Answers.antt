use Rattle.std.proofs.Common.{◌≡◌, ◌≤◌, [], length, arith}
use Rattle.std.proofs.lemmas.Result.{err_from_is_err_and}
use Rattle.ascii_text.specs.Line.{lines_of}
use Rattle.slot_table.proofs.Reading.{all_given, next_line, count_fits, slots_fit, are_right, line_refused, text_read, text_refused}
use Rattle.slot_table.proofs.table.read_table.Goals as goal

pub overflow_add-number : goal.overflow_add-number
overflow_add-number c =
    let few = count_fits c.args.text.now c.loop-line.number c.loop-line.line-iterator c.next.new.self c.in-Some.line.now c.loop-line.slots.items c.loop-line.invariant c.in-Some.ensures.steps in
    omega arith

pub loop-line-preserved : goal.loop-line-preserved
loop-line-preserved c =
    next_line c.args.text.now c.loop-line.number c.loop-line.line-iterator c.next.new.self c.in-Some.line.now c.loop-line.slots.items c.take_line.new.slots.items c.loop-line.invariant c.in-Some.ensures.steps c.in_ok-take_line.ensures.said

pub returns-in_err-take_line-clause-refused : goal.returns-in_err-take_line-clause-refused
returns-in_err-take_line-clause-refused c =
    let p = err_from_is_err_and c.from_residual.result c.from_residual.ensures.1 in
    rw (p.1, p.2)
    (line_refused c.args.text.now c.loop-line.number c.loop-line.line-iterator c.next.new.self c.in-Some.line.now c.loop-line.slots.items c.loop-line.invariant c.in-Some.ensures.steps c.in_err-take_line.field-0.0 c.in_err-take_line.ensures.refused)

pub counted-requires-clause-right : goal.counted-requires-clause-right
counted-requires-clause-right c =
    let done : c.loop-line.line-iterator ≡ [] = c.in-None.ensures.steps.0 in
    are_right (lines_of c.args.text.now) c.loop-line.slots.items (all_given c.args.text.now c.loop-line.number c.loop-line.line-iterator c.loop-line.slots.items c.loop-line.invariant done)

pub counted-requires-clause-few : goal.counted-requires-clause-few
counted-requires-clause-few c =
    let done : c.loop-line.line-iterator ≡ [] = c.in-None.ensures.steps.0 in
    let small : length c.args.text.now ≤ 33554432 = c.requires in
    slots_fit c.args.text.now c.loop-line.slots.items small (all_given c.args.text.now c.loop-line.number c.loop-line.line-iterator c.loop-line.slots.items c.loop-line.invariant done)

pub returns : goal.returns
returns c =
    let done : c.loop-line.line-iterator ≡ [] = c.in-None.ensures.steps.0 in
    let given = all_given c.args.text.now c.loop-line.number c.loop-line.line-iterator c.loop-line.slots.items c.loop-line.invariant done in
    record {
      read = text_read c.args.text.now c.loop-line.slots.items c.counted.result given c.counted.ensures.table c.counted.ensures.count;
      refused = text_refused c.args.text.now c.loop-line.slots.items c.counted.result given c.counted.ensures.other;
    }
