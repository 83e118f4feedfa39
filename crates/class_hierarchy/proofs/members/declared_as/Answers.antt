use Rattle.std.proofs.Common.{◌∙◌, sym, ap}
use Rattle.lists.specs.Lists.{onto}
use Rattle.class_lookup.specs.Lookup.{declared_method}
use Rattle.class_hierarchy.proofs.members.declared_as.Goals as goal

pub returns : goal.returns
returns c =
    let h = c.requires in
    c.declared_method.ensures h.signature h.name_is h.descriptor_is ∙ sym (ap (λ o. onto o (λ s. declared_method c.args.classes.now s c.args.class)) h.has)
