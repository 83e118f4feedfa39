use Rattle.std.proofs.Common.{◌∙◌}
use Rattle.std.specs.List.{filter_map}
use Rattle.class_lookup.specs.Parts.{superinterface_names}
use Rattle.class_lookup.specs.Hierarchy.{find_class}
use Rattle.class_lookup.proofs.NameLemmas.{next_map}
use Rattle.class_lookup.proofs.NamedLemmas.{there, at_read}
use Rattle.class_lookup.proofs.names.interfaces_of.Goals as goal

pub loop-i-preserved : goal.loop-i-preserved
loop-i-preserved c =
    let cs = c.args.classes.now in
    let lt = c.loop-i-test.true in
    let k = there cs c.loop-i.i lt in
    c.in_ok-push.ensures.items
    ∙ next_map (λ k. filter_map (find_class cs) (superinterface_names k)) cs c.loop-i.i k.0 c.loop-i.found.items c.new.result lt (at_read cs c.loop-i.i k.0 k.1) c.loop-i.invariant
    (c.new.ensures ∙ c.in_ok-superinterfaces_of.ensures k.0 k.1)
