use Rattle.std.proofs.Common.{sym, ap, ◌∙◌}
use Rattle.lists.specs.Lists.{onto}
use Rattle.class_lookup.specs.Lookup.{declared_method}
use Rattle.class_hierarchy.proofs.members.marked_as.Goals as goal

pub returns-else-has : goal.returns-else-has
returns-else-has c =
    let h = c.requires.named in
    sym (ap (λ o. onto o (λ s. declared_method c.args.classes.now s c.args.class)) h.has ∙ c.requires.row h.signature c.args.class h.name_is h.descriptor_is (sym c.has.ensures ∙ c.if-has.false))
