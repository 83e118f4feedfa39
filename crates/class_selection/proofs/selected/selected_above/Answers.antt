use Rattle.std.proofs.Common.{◌≡◌, refl, sym, ap, ◌∙◌}
use Rattle.class_lookup.specs.Hierarchy.{superclass, is_interface}
use Rattle.class_hierarchy.proofs.Filled.{superclass_below}
use Rattle.class_selection.proofs.Lemmas.{no_superclass, interface_above, own_above}
use Rattle.class_selection.proofs.selected.selected_above.Goals as goal

pub returns-then-not-is_of_interface : goal.returns-then-not-is_of_interface
returns-then-not-is_of_interface c =
    let cs = c.args.hierarchy.now in
    let other : is_interface cs c.args.method.0 ≡ _ = ap (λ ks. is_interface ks c.args.method.0) (sym c.classes.ensures) ∙ (sym c.is_of_interface.ensures ∙ c.if-not-is_of_interface.true) in
    own_above cs c.is_without_cycle.ensures c.args.class c.args.method c.nothing.result other (c.requires.method other) c.nothing.ensures.place c.nothing.ensures.free

pub select-requires : goal.select-requires
select-requires c = superclass_below c.args.hierarchy.now c.args.class c.in-Some.upper (c.in-Some.ensures ∙ ap (λ ks. superclass ks c.args.class) c.classes-2.ensures)

pub returns-in-Some : goal.returns-in-Some
returns-in-Some c =
    let cs = c.args.hierarchy.now in
    let yes = ap (λ ks. is_interface ks c.args.method.0) (sym c.classes.ensures) ∙ (sym c.is_of_interface.ensures ∙ c.if-not-is_of_interface.false) in
    interface_above cs c.args.class c.in-Some.upper c.args.method _ (sym (c.in-Some.ensures ∙ ap (λ ks. superclass ks c.args.class) c.classes-2.ensures)) yes c.select.ensures refl

pub returns-in-None : goal.returns-in-None
returns-in-None c =
    no_superclass c.args.hierarchy.now c.args.class c.args.method c.nothing-in-None.result (sym (c.in-None.ensures ∙ ap (λ ks. superclass ks c.args.class) c.classes-2.ensures)) c.nothing-in-None.ensures.place c.nothing-in-None.ensures.free
