use Rattle.std.proofs.Common.{sym, ◌∙◌}
use Rattle.class_hierarchy.proofs.members.marked_method.Goals as goal

pub returns-else-has : goal.returns-else-has
returns-else-has c = λ s n d. sym (c.requires s c.args.class n d (sym c.has.ensures ∙ c.if-has.false))
