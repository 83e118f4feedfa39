use Rattle.std.proofs.Common.{◌∙◌}
use Rattle.class_lookup.specs.Parts.{superclass_name}
use Rattle.class_lookup.specs.Hierarchy.{find_class}
use Rattle.class_lookup.proofs.NameLemmas.{next_map}
use Rattle.class_lookup.proofs.NamedLemmas.{item_at}
use Rattle.class_lookup.proofs.names.superclasses_of.Goals as goal

pub loop-i-preserved : goal.loop-i-preserved
loop-i-preserved c =
    let cs = c.args.classes.now in
    let class = c.index-classes-i.result in
    let lt = c.loop-i-test.true in
    c.in_ok-push.ensures.items
    ∙ next_map (λ k. find_class cs (superclass_name k)) cs c.loop-i.i class c.loop-i.supers.items c.class_named.result lt c.index-classes-i.is c.loop-i.invariant
    (c.class_named.ensures class (item_at cs c.loop-i.i class lt c.index-classes-i.is))
