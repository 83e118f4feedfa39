use Rattle.std.proofs.Common.{◌≡◌, ◌<◌, ◌++◌, List, [], ℕ, length, sym, ap, ◌∙◌, subst, arith}
use Rattle.std.specs.Prelude.{OnOk}
use Rattle.std.proofs.lemmas.List.{get_or_default}
use Rattle.class_pool.specs.declared.class.ClassFile.{ClassFile}
use Rattle.class_lookup.specs.Hierarchy.{is_interface}
use Rattle.image_words.specs.Layout.{outline_of}
use Rattle.image_words.specs.Slots.{slots}
use Rattle.class_selection.specs.declared.selected.Selected.{Selected}
use Rattle.image_layout.specs.Rows.{AreSelected}
use Rattle.image_layout.proofs.RowLemmas.{table_words}
use Rattle.image_layout.proofs.tables.add_table.Goals as goal

pub returns : goal.returns
returns c =
    let cs = c.args.program.now in
    let class = c.args.class in
    let rows = c.args.rows.now in
    let row = c.index-rows-class.result in
    let within = c.requires.class in
    let long = c.requires.rows.long in
    let lt : class < length rows = omega (arith, within, long) in
    let read = get_or_default rows class [] row lt ∙ (sym c.index-rows-class.is ∙ sym c.as_slice.ensures) in
    let other = ap (λ (ks : List ClassFile). is_interface ks class) (sym (c.classes.ensures ∙ c.hierarchy.ensures)) ∙ (sym c.is_interface.ensures ∙ c.if-is_interface.false) in
    let are = subst (λ (k : List Selected). AreSelected cs class (slots cs class) k) read (c.requires.rows.each class within) in
    subst (λ (ws : List ℕ). OnOk c.add_places.result (c.add_places.new.words.items ≡ c.args.words.now.items ++ ws)) (table_words cs (outline_of cs) class c.as_slice.result.now other are) c.add_places.ensures
