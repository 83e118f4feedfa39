use Rattle.std.proofs.Common.{rules, false}
use Rattle.std.proofs.lemmas.Result.{err_from_is_err_and}
use Rattle.class_pool.specs.Reading.{places_in}
use Rattle.class_pool.proofs.PlaceLemmas.{goes_on, stops, is_due, is_done}
use Rattle.class_pool.proofs.reading.places_at.Goals as goal

pub returns-in_err-entry : goal.returns-in_err-entry
returns-in_err-entry c =
    let p = err_from_is_err_and c.from_residual.result c.from_residual.ensures.1 in
    rw (p.1, p.2) (stops c.in_err-entry.field-0.0 c.loop.entries.items c.args.count c.loop.counter c.loop.due c.loop.rest.now (places_in c.args.count false c.args.bytes.now) c.loop-test.true c.in_err-entry.ensures c.loop.invariant)

pub loop-preserved : goal.loop-preserved
loop-preserved c = rw (c.in_ok-push.ensures.items, c.takes_two-due.ensures) (goes_on c.loop.entries.items c.args.count c.loop.counter c.loop.due c.loop.rest.now c.in_ok-entry.entry c.in_ok-entry.after.now (places_in c.args.count false c.args.bytes.now) c.loop-test.true c.in_ok-entry.ensures c.loop.invariant)

pub returns-then-due : goal.returns-then-due
returns-then-due c = is_due c.loop.entries.items c.args.count c.loop.counter c.loop.due c.loop.rest.now (places_in c.args.count false c.args.bytes.now) c.loop-test.false (search rules) c.loop.invariant

pub returns : goal.returns
returns c = is_done c.loop.entries.items c.args.count c.loop.counter c.loop.due c.loop.rest.now (places_in c.args.count false c.args.bytes.now) c.loop-test.false (search rules) c.loop.invariant
