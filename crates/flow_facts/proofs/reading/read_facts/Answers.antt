use Rattle.std.proofs.Common.{arith}
use Rattle.std.proofs.lemmas.Result.{err_from_is_err_and}
use Rattle.flow_facts.proofs.ReadLemmas.{count_fits, next_line, refused}
use Rattle.flow_facts.proofs.reading.read_facts.Goals as goal

pub overflow_add-number : goal.overflow_add-number
overflow_add-number c =
    let few = count_fits c.args.text.now c.loop-line.number c.loop-line.line-iterator c.next.new.self c.in-Some.line.now c.loop-line.reading c.loop-line.invariant c.in-Some.ensures.steps in
    omega arith

pub loop-line-preserved : goal.loop-line-preserved
loop-line-preserved c =
    next_line c.args.text.now c.loop-line.number c.loop-line.line-iterator c.next.new.self c.in-Some.line.now c.loop-line.reading _ c.loop-line.invariant c.in-Some.ensures.steps
    c.in_ok-reading.ensures.added.0 c.in_ok-reading.ensures.added.1

pub returns-in_err-reading-clause-refused : goal.returns-in_err-reading-clause-refused
returns-in_err-reading-clause-refused c =
    let p = err_from_is_err_and c.from_residual.result c.from_residual.ensures.1 in
    rw (p.1, p.2)
    (refused c.args.text.now c.loop-line.number c.loop-line.line-iterator c.next.new.self c.in-Some.line.now c.loop-line.reading c.in_err-reading.field-0.0 c.loop-line.invariant c.in-Some.ensures.steps
    c.in_err-reading.ensures.refused)
