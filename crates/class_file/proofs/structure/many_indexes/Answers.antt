use Rattle.std.proofs.lemmas.Result.{err_from_is_err_and}
use Rattle.class_pool.specs.Reading.{number_in}
use Rattle.class_file.specs.InsideReading.{many_in}
use Rattle.class_file.proofs.ManyLemmas.{goes_on, stops, is_done}
use Rattle.class_file.proofs.structure.many_indexes.Goals as goal

pub returns-in_err-index : goal.returns-in_err-index
returns-in_err-index c =
    let p = err_from_is_err_and c.from_residual.result c.from_residual.ensures.1 in
    rw (p.1, p.2) (stops (number_in 2) c.in_err-index.field-0.0 c.loop.indexes.items c.args.count c.loop.counter c.loop.rest.now (many_in (number_in 2) c.args.count c.args.bytes.now) c.loop-test.true c.in_err-index.ensures.read c.loop.invariant)

pub loop-preserved : goal.loop-preserved
loop-preserved c = rw c.in_ok-push.ensures.items (goes_on (number_in 2) c.loop.indexes.items c.args.count c.loop.counter c.loop.rest.now c.in_ok-index.index c.in_ok-index.after.now (many_in (number_in 2) c.args.count c.args.bytes.now) c.loop-test.true c.in_ok-index.ensures.read c.loop.invariant)

pub returns : goal.returns
returns c = is_done (number_in 2) c.loop.indexes.items c.args.count c.loop.counter c.loop.rest.now (many_in (number_in 2) c.args.count c.args.bytes.now) c.loop-test.false c.loop.invariant
