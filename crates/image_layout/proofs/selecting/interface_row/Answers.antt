use Rattle.std.proofs.Common.{◌<◌, List, [], length, refl, sym, ap, ◌∙◌, subst, arith}
use Rattle.std.proofs.lemmas.List.{get_or_default}
use Rattle.class_pool.specs.declared.class.ClassFile.{ClassFile}
use Rattle.class_lookup.specs.Hierarchy.{superclass}
use Rattle.class_hierarchy.proofs.Filled.{superclass_below}
use Rattle.class_selection.specs.declared.selected.Selected.{Selected}
use Rattle.image_layout.specs.Rows.{AreSelected, table_methods}
use Rattle.image_layout.proofs.RowLemmas.{interface_below, interface_none}
use Rattle.image_layout.proofs.selecting.interface_row.Goals as goal

pub bounds-rows-upper : goal.bounds-rows-upper
bounds-rows-upper c =
    let below = superclass_below c.args.hierarchy.now c.args.class c.in-Some.upper (c.in-Some.ensures ∙ ap (λ (ks : List ClassFile). superclass ks c.args.class) c.classes-2.ensures) in
    let long = c.requires.long in
    omega (arith, below, long)

pub row_of-requires-clause-above : goal.row_of-requires-clause-above
row_of-requires-clause-above c =
    let cs = c.args.hierarchy.now in
    let d = c.in-Some.upper in
    let rows = c.args.rows.now in
    let row = c.index-rows-upper.result in
    let up = c.in-Some.ensures ∙ ap (λ (ks : List ClassFile). superclass ks c.args.class) c.classes-2.ensures in
    let below = superclass_below cs c.args.class d up in
    let long = c.requires.long in
    let lt : d < length rows = omega (arith, below, long) in
    let read = get_or_default rows d [] row lt ∙ (sym c.index-rows-upper.is ∙ sym c.as_slice.ensures) in
    interface_below cs c.args.class d c.args.methods.now c.as_slice.result.now (sym up) c.requires.methods
    (subst (λ (k : List Selected). AreSelected cs d (table_methods cs d) k) read (c.requires.above d (sym up)))

pub row_of-requires-in-None-clause-above : goal.row_of-requires-in-None-clause-above
row_of-requires-in-None-clause-above c = interface_none c.args.hierarchy.now c.args.class c.args.methods.now [] c.requires.methods refl
