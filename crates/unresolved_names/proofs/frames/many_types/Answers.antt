use Rattle.std.proofs.lemmas.Result.{err_from_is_err_and}
use Rattle.program_tables.specs.FrameClasses.{many, type_in}
use Rattle.unresolved_names.proofs.ManyLemmas.{goes_on, stops, is_done}
use Rattle.unresolved_names.proofs.frames.many_types.Goals as goal

pub returns-in_err-found : goal.returns-in_err-found
returns-in_err-found c =
    let p = err_from_is_err_and c.from_residual.result c.from_residual.ensures.1 in
    rw (p.1, p.2) (stops type_in c.in_err-found.field-0.0 c.loop.classes.items c.args.count c.loop.counter c.loop.rest.now (many type_in c.args.count c.args.bytes.now) c.loop-test.true c.in_err-found.ensures c.loop.invariant)

pub loop-preserved : goal.loop-preserved
loop-preserved c = rw c.in_ok-append.ensures.items (goes_on type_in c.loop.classes.items c.args.count c.loop.counter c.loop.rest.now c.in_ok-found.found.items c.in_ok-found.after.now (many type_in c.args.count c.args.bytes.now) c.loop-test.true c.in_ok-found.ensures c.loop.invariant)

pub returns : goal.returns
returns c = is_done type_in c.loop.classes.items c.args.count c.loop.counter c.loop.rest.now (many type_in c.args.count c.args.bytes.now) c.loop-test.false c.loop.invariant
