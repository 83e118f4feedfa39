use Rattle.std.proofs.lemmas.Result.{err_from_is_err_and}
use Rattle.class_file.specs.InsideReading.{many_in, named_in}
use Rattle.class_file.proofs.ManyLemmas.{goes_on, stops, is_done}
use Rattle.class_file.proofs.parts.many_named.Goals as goal

pub returns-in_err-named : goal.returns-in_err-named
returns-in_err-named c =
    let p = err_from_is_err_and c.from_residual.result c.from_residual.ensures.1 in
    rw (p.1, p.2) (stops named_in c.in_err-named.field-0.0 c.loop.all.items c.args.count c.loop.counter c.loop.rest.now (many_in named_in c.args.count c.args.bytes.now) c.loop-test.true c.in_err-named.ensures c.loop.invariant)

pub loop-preserved : goal.loop-preserved
loop-preserved c = rw c.in_ok-push.ensures.items (goes_on named_in c.loop.all.items c.args.count c.loop.counter c.loop.rest.now c.in_ok-named.named c.in_ok-named.after.now (many_in named_in c.args.count c.args.bytes.now) c.loop-test.true c.in_ok-named.ensures c.loop.invariant)

pub returns : goal.returns
returns c = is_done named_in c.loop.all.items c.args.count c.loop.counter c.loop.rest.now (many_in named_in c.args.count c.args.bytes.now) c.loop-test.false c.loop.invariant
