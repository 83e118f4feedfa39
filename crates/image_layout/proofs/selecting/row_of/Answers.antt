use Rattle.std.proofs.Common.{length, length-append, ◌∷◌, [], List, sym, ap, ◌∙◌, arith}
use Rattle.std.specs.Prelude.{slice_get}
use Rattle.class_selection.specs.declared.selected.Selected.{Selected}
use Rattle.image_layout.proofs.RowLemmas.{got, so_far_more}
use Rattle.image_layout.proofs.selecting.row_of.Goals as goal

pub loop-i-preserved : goal.loop-i-preserved
loop-i-preserved c =
    let methods = c.args.methods.now in
    let old = c.loop-i.row.items in
    let m = c.index-methods-i.result in
    let s = c.selected_with.result in
    let count = c.loop-i.invariant.0 in
    let items = c.in_ok-push.ensures.items in
    let long = ap length items ∙ length-append old (s ∷ []) in
    let test = c.loop-i-test.true in (
      omega (arith, long, count),
      so_far_more c.args.hierarchy.now c.args.class methods old c.push.new.self.items m s c.loop-i.invariant.1
          (ap (slice_get methods) count ∙ got methods c.loop-i.i m (omega (arith, test)) c.index-methods-i.is) c.selected_with.ensures items,
    )

pub returns : goal.returns
returns c =
    let count = c.loop-i.invariant.0 in
    let test = c.loop-i-test.false in
    let end = c.loop-i.auto.i-end in
    let same = ap length c.new.ensures in
    record {
      long = omega (arith, same, count, test, end);
      each = λ i a s h t. c.loop-i.invariant.1 i a s h (ap (λ (xs : List Selected). slice_get xs i) (sym c.new.ensures) ∙ t);
    }
