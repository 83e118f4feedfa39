use Rattle.std.proofs.Common.{List, sym, ap, ◌∙◌}
use Rattle.std.specs.List.{find}
use Rattle.class_lookup.specs.Lookup.{Place}
use Rattle.class_lookup.specs.Selection.{is_public_instance}
use Rattle.class_hierarchy.proofs.Unmarked.{none_named}
use Rattle.class_hierarchy.proofs.selecting.first_public.Goals as goal

pub returns-in_err-row : goal.returns-in_err-row
returns-in_err-row c =
    let cs = c.args.classes.now in
    c.from_residual.ensures
    ∙ sym (ap (λ (ms : List Place). find (is_public_instance cs) ms) (none_named cs c.args.marks.now c.args.method.now c.requires.named c.requires.marks c.in_err-row.ensures c.args.list.now))
