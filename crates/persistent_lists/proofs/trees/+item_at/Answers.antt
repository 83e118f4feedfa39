use Rattle.std.proofs.Common.{◌≡◌, ℕ, sym, ap, ◌∙◌, ◌-◌, arith}
use Rattle.std.specs.Prelude.{slice_get}
use Rattle.persistent_lists.specs.Trees.{items}
use Rattle.persistent_lists.proofs.TreeLemmas.{leaf, at_left, at_right, size_zero}
use Rattle.persistent_lists.proofs.SearchLemmas.{index_behind}
use Rattle.persistent_lists.proofs.trees.+item_at.Goals as goal

pub returns-then-height-eq0 : goal.returns-then-height-eq0
returns-then-height-eq0 t c =
    let first : c.args.index ≡ 0 = omega (arith, c.requires.within, size_zero c.args.height c.if-height-eq0.true) in
    ap (slice_get (items c.args.pairs.now c.args.height c.args.node)) first ∙ ap (λ l. slice_get l 0) (leaf c.args.pairs.now c.args.height c.args.node c.if-height-eq0.true)

pub returns-then-index-half : goal.returns-then-index-half
returns-then-index-half t c =
    at_left c.args.pairs.now c.args.height c.args.node c.args.index c.item_at.result c.get-halves.result c.get-halves.ensures (omega (arith, c.if-height-eq0.false))
    (omega (arith, c.if-index-half.true, c.size_of-half.ensures)) c.item_at.ensures

pub item_at-requires-2 : goal.item_at-requires-2
item_at-requires-2 t c = (
  omega (arith, c.decreases, c.if-height-eq0.false),
  (
    omega (arith, c.requires.height),
    index_behind c.args.height c.args.index c.size_of-half.result (omega (arith, c.if-height-eq0.false)) c.size_of-half.ensures c.if-index-half.false c.requires.within,
  ),
)

pub returns : goal.returns
returns t c =
    at_right c.args.pairs.now c.args.height c.args.node c.args.index c.item_at-2.result c.get-halves.result c.get-halves.ensures (omega (arith, c.if-height-eq0.false))
    (omega (arith, c.if-index-half.false, c.size_of-half.ensures))
    (ap (λ (s : ℕ). slice_get (items c.args.pairs.now (c.args.height - 1) c.get-halves.result.1) (c.args.index - s)) (sym c.size_of-half.ensures) ∙ c.item_at-2.ensures)
