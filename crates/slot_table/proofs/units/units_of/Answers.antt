use Rattle.std.proofs.Common.{rules}
use Rattle.class_pool.specs.Reading.{units_in}
use Rattle.class_pool.proofs.TextLemmas.{goes_on, shrinks, stops, is_done}
use Rattle.slot_table.proofs.units.units_of.Goals as goal

pub returns-in_default : goal.returns-in_default
returns-in_default c = stops c.loop-rest.units.items c.loop-rest.rest.now (units_in c.args.bytes.now) (search rules) (search rules) c.loop-rest.invariant

pub loop-rest-smaller : goal.loop-rest-smaller
loop-rest-smaller c = shrinks c.loop-rest.rest.now c.in-Some.unit c.in-Some.after.now c.in-Some.ensures

pub loop-rest-preserved : goal.loop-rest-preserved
loop-rest-preserved c = rw c.in_ok-push.ensures.items (goes_on c.loop-rest.units.items c.loop-rest.rest.now c.in-Some.unit c.in-Some.after.now (units_in c.args.bytes.now) c.in-Some.ensures c.loop-rest.invariant)

pub returns : goal.returns
returns c = rw c.new.ensures (is_done c.loop-rest.units.items c.loop-rest.rest.now (units_in c.args.bytes.now) (search rules) c.loop-rest.invariant)
