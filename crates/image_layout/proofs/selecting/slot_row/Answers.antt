use Rattle.std.proofs.Common.{◌<◌, ◌++◌, List, [], length, refl, sym, ap, ◌∙◌, subst, arith}
use Rattle.std.proofs.lemmas.List.{get_or_default}
use Rattle.class_pool.specs.declared.class.ClassFile.{ClassFile}
use Rattle.class_lookup.specs.Hierarchy.{superclass}
use Rattle.class_lookup.specs.Lookup.{Place}
use Rattle.class_hierarchy.proofs.Filled.{superclass_below}
use Rattle.image_words.specs.Slots as numbered
use Rattle.class_selection.specs.declared.selected.Selected.{Selected}
use Rattle.image_layout.specs.Rows.{AreSelected}
use Rattle.image_layout.proofs.RowLemmas.{below_row, below_none}
use Rattle.image_layout.proofs.selecting.slot_row.Goals as goal

pub bounds-rows-upper : goal.bounds-rows-upper
bounds-rows-upper c =
    let below = superclass_below c.args.hierarchy.now c.args.class c.in-Some.upper (c.in-Some.ensures ∙ ap (λ (ks : List ClassFile). superclass ks c.args.class) c.classes.ensures) in
    let long = c.requires.long in
    omega (arith, below, long)

pub row_of-requires-clause-above : goal.row_of-requires-clause-above
row_of-requires-clause-above c =
    let cs = c.args.hierarchy.now in
    let d = c.in-Some.upper in
    let rows = c.args.rows.now in
    let row = c.index-rows-upper.result in
    let up = c.in-Some.ensures ∙ ap (λ (ks : List ClassFile). superclass ks c.args.class) c.classes.ensures in
    let below = superclass_below cs c.args.class d up in
    let long = c.requires.long in
    let lt : d < length rows = omega (arith, below, long) in
    let read = get_or_default rows d [] row lt ∙ (sym c.index-rows-upper.is ∙ sym c.as_slice.ensures) in
    below_row cs (c.superclasses_stand_above.ensures cs c.is_without_cycle.ensures) c.args.class d c.deref.result.now c.as_slice.result.now (sym up)
    (c.deref.ensures.value ∙ (c.in_ok-add_to.ensures ∙ ap (λ (ms : List Place). ms ++ numbered.slots cs c.args.class) c.new-methods.ensures.items))
    (subst (λ (k : List Selected). AreSelected cs d (numbered.slots cs d) k) read (c.requires.above d (sym up)))

pub row_of-requires-in-None-clause-above : goal.row_of-requires-in-None-clause-above
row_of-requires-in-None-clause-above c =
    let cs = c.args.hierarchy.now in
    below_none cs (c.superclasses_stand_above.ensures cs c.is_without_cycle.ensures) c.args.class c.deref-in-None.result.now []
    (sym (c.in-None.ensures ∙ ap (λ (ks : List ClassFile). superclass ks c.args.class) c.classes.ensures))
    (c.deref-in-None.ensures.value ∙ (c.in_ok-add_to.ensures ∙ ap (λ (ms : List Place). ms ++ numbered.slots cs c.args.class) c.new-methods.ensures.items)) refl
