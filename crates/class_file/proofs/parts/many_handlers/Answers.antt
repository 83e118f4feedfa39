use Rattle.std.proofs.lemmas.Result.{err_from_is_err_and}
use Rattle.class_file.specs.InsideReading.{many_in, handler_in}
use Rattle.class_file.proofs.ManyLemmas.{goes_on, stops, is_done}
use Rattle.class_file.proofs.parts.many_handlers.Goals as goal

pub returns-in_err-handler : goal.returns-in_err-handler
returns-in_err-handler c =
    let p = err_from_is_err_and c.from_residual.result c.from_residual.ensures.1 in
    rw (p.1, p.2) (stops handler_in c.in_err-handler.field-0.0 c.loop.handlers.items c.args.count c.loop.counter c.loop.rest.now (many_in handler_in c.args.count c.args.bytes.now) c.loop-test.true c.in_err-handler.ensures c.loop.invariant)

pub loop-preserved : goal.loop-preserved
loop-preserved c = rw c.in_ok-push.ensures.items (goes_on handler_in c.loop.handlers.items c.args.count c.loop.counter c.loop.rest.now c.in_ok-handler.handler c.in_ok-handler.after.now (many_in handler_in c.args.count c.args.bytes.now) c.loop-test.true c.in_ok-handler.ensures c.loop.invariant)

pub returns : goal.returns
returns c = is_done handler_in c.loop.handlers.items c.args.count c.loop.counter c.loop.rest.now (many_in handler_in c.args.count c.args.bytes.now) c.loop-test.false c.loop.invariant
