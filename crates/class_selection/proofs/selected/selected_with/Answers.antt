use Rattle.std.proofs.Common.{ap, ◌∙◌}
use Rattle.class_hierarchy.specs.Members.{declared_as}
use Rattle.class_selection.proofs.Lemmas.{at_declared, at_other}
use Rattle.class_selection.proofs.selected.selected_with.Goals as goal

pub returns-in-Some : goal.returns-in-Some
returns-in-Some c =
    at_declared c.args.hierarchy.now c.is_without_cycle.ensures c.args.method c.args.class c.in-Some.place c.args.above.now c.with_method.result
    (c.in-Some.ensures ∙ ap (λ cs. declared_as cs c.args.method c.args.class) c.classes.ensures) c.requires c.with_method.ensures

pub returns-in-None : goal.returns-in-None
returns-in-None c =
    at_other c.args.hierarchy.now c.is_without_cycle.ensures c.args.method c.args.class c.args.above.now
    (c.in-None.ensures ∙ ap (λ cs. declared_as cs c.args.method c.args.class) c.classes.ensures) c.requires
