use Rattle.std.proofs.Common.{◌≡◌, sym, ◌∙◌, subst}
use Rattle.lists.proofs.Lemmas.{some_same}
use Rattle.class_lookup.specs.Lookup.{Place}
use Rattle.class_selection.specs.Selecting.{IsSelectedAbove}
use Rattle.image_layout.proofs.RowLemmas.{got}
use Rattle.image_layout.proofs.selecting.above_at.Goals as goal

pub returns-then-index-above : goal.returns-then-index-above
returns-then-index-above c = λ a h.
    let s = c.index-above-index.result in
    c.requires.above.each c.args.index a s h (got c.args.above.now c.args.index s c.if-index-above.true c.index-above-index.is)

pub returns-else-index-above : goal.returns-else-index-above
returns-else-index-above c = λ a h.
    let m = c.index-methods-index.result in
    let same : m ≡ a = some_same m a (sym (got c.args.methods.now c.args.index m c.requires.index c.index-methods-index.is) ∙ h) in
    subst (λ (p : Place). IsSelectedAbove c.args.hierarchy.now c.args.class p c.selected_above.result) same c.selected_above.ensures
