use Rattle.std.proofs.Common.{take_all, ap, ◌∙◌}
use Rattle.std.specs.List.{filter_map}
use Rattle.class_lookup.specs.Lookup.{declared_method}
use Rattle.class_checks.proofs.PlaceItemLemmas.{more_found}
use Rattle.class_checks.proofs.placed.upwards.Goals as goal

pub loop-class-preserved : goal.loop-class-preserved
loop-class-preserved c s h e =
    more_found (declared_method c.args.classes.now s) c.args.chain.now c.loop-class.class-index c.loop-class.places.items c.put_found.new.places.items c.declared_method-found.result
    c.loop-class-test.true (c.loop-class.invariant s h e) (c.declared_method-found.ensures s h e) c.in_ok-put_found.ensures

pub returns : goal.returns
returns c s h e = c.loop-class.invariant s h e ∙ ap (filter_map (declared_method c.args.classes.now s)) (take_all c.loop-class.class-index c.args.chain.now c.loop-class-test.false)
