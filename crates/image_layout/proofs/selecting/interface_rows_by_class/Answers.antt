use Rattle.std.proofs.Common.{List, [], get_or, length, refl, sym, ap, ◌∙◌, subst, arith}
use Rattle.lists.proofs.Among.{among_at}
use Rattle.class_selection.specs.declared.selected.Selected.{Selected}
use Rattle.image_layout.specs.Rows.{AreSelected, table_methods}
use Rattle.image_layout.proofs.RowLemmas.{rows_none, rows_more, rows_all}
use Rattle.image_layout.proofs.selecting.interface_rows_by_class.Goals as goal

pub loop-class-init : goal.loop-class-init
loop-class-init c = rows_none c.args.hierarchy.now (table_methods c.args.hierarchy.now) c.in_ok-rows.rows.items (c.in_ok-rows.ensures ∙ (c.class_count.ensures ∙ ap length c.classes.ensures))

pub interface_row-requires-clause-class : goal.interface_row-requires-clause-class
interface_row-requires-clause-class c = c.requires.order.below (get_or c.args.order.now c.loop-class.class-index 0) (among_at c.args.order.now c.loop-class.class-index c.loop-class-test.true)

pub interface_row-requires-clause-long : goal.interface_row-requires-clause-long
interface_row-requires-clause-long c = ap length c.deref.ensures.value ∙ c.loop-class.invariant.long

pub interface_row-requires-clause-above : goal.interface_row-requires-clause-above
interface_row-requires-clause-above c = λ d h.
    let cs = c.args.hierarchy.now in
    subst (λ (t : List (List Selected)). AreSelected cs d (table_methods cs d) (get_or t d [])) (sym c.deref.ensures.value)
    (c.loop-class.invariant.each d (c.requires.order.ordered c.loop-class.class-index d c.loop-class-test.true h))

pub index_mut-requires : goal.index_mut-requires
index_mut-requires c =
    let below = c.requires.order.below (get_or c.args.order.now c.loop-class.class-index 0) (among_at c.args.order.now c.loop-class.class-index c.loop-class-test.true) in
    let long = c.loop-class.invariant.long in
    omega (arith, below, long)

pub loop-class-preserved : goal.loop-class-preserved
loop-class-preserved c =
    rows_more c.args.hierarchy.now (table_methods c.args.hierarchy.now) c.args.order.now c.loop-class.class-index c.loop-class.rows.items _ c.in_ok-row.row c.requires.order c.loop-class-test.true c.loop-class.invariant c.in_ok-row.ensures refl

pub returns : goal.returns
returns c = rows_all c.args.hierarchy.now (table_methods c.args.hierarchy.now) c.args.order.now c.loop-class.class-index c.loop-class.rows.items c.loop-class-test.false c.loop-class.invariant
