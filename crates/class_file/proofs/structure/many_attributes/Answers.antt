use Rattle.std.proofs.lemmas.Result.{err_from_is_err_and}
use Rattle.class_file.specs.InsideReading.{many_in, attribute_in}
use Rattle.class_file.proofs.ManyLemmas.{goes_on, stops, is_done}
use Rattle.class_file.proofs.structure.many_attributes.Goals as goal

pub returns-in_err-attribute : goal.returns-in_err-attribute
returns-in_err-attribute c =
    let p = err_from_is_err_and c.from_residual.result c.from_residual.ensures.1 in
    rw (p.1, p.2) (stops (attribute_in c.args.owner c.args.pool.now) c.in_err-attribute.field-0.0 c.loop.attributes.items c.args.count c.loop.counter c.loop.rest.now (many_in (attribute_in c.args.owner c.args.pool.now) c.args.count c.args.bytes.now) c.loop-test.true c.in_err-attribute.ensures c.loop.invariant)

pub loop-preserved : goal.loop-preserved
loop-preserved c = rw c.in_ok-push.ensures.items (goes_on (attribute_in c.args.owner c.args.pool.now) c.loop.attributes.items c.args.count c.loop.counter c.loop.rest.now c.in_ok-attribute.attribute c.in_ok-attribute.after.now (many_in (attribute_in c.args.owner c.args.pool.now) c.args.count c.args.bytes.now) c.loop-test.true c.in_ok-attribute.ensures c.loop.invariant)

pub returns : goal.returns
returns c = is_done (attribute_in c.args.owner c.args.pool.now) c.loop.attributes.items c.args.count c.loop.counter c.loop.rest.now (many_in (attribute_in c.args.owner c.args.pool.now) c.args.count c.args.bytes.now) c.loop-test.false c.loop.invariant
