use Rattle.std.proofs.Common.{◌∙◌}
use Rattle.class_hierarchy.proofs.Unmarked.{none_found}
use Rattle.class_hierarchy.proofs.members.first_field.Goals as goal

pub returns-in_err-row : goal.returns-in_err-row
returns-in_err-row c = λ s n d.
    c.from_residual.ensures ∙ none_found (λ k. k.fields) c.args.classes.now c.args.marks.now c.args.name c.args.descriptor c.requires c.in_err-row.ensures s n d c.args.list.now
