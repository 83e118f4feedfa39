use Rattle.std.proofs.Common.{◌-◌, arith}
use Rattle.std.proofs.lemmas.Result.{IfOk-weaker}
use Rattle.persistent_lists.proofs.TreeLemmas.{left_tree, right_tree, tree_kept}
use Rattle.persistent_lists.proofs.ResidueLemmas.{with_residues_leaf, with_residues_kept, left_with_residues, right_with_residues}
use Rattle.persistent_lists.proofs.SearchLemmas.{index_behind}
use Rattle.persistent_lists.proofs.FillLemmas.{leaf_with, left_with, right_with}
use Rattle.persistent_lists.proofs.trees.+tree_with.Goals as goal

pub returns-then-height-eq0-clause-made : goal.returns-then-height-eq0-clause-made
returns-then-height-eq0-clause-made t c = leaf_with c.args.pairs.now c.args.height c.args.node c.args.index c.args.item c.if-height-eq0.true c.requires.within

pub returns-then-height-eq0-clause-marked : goal.returns-then-height-eq0-clause-marked
returns-then-height-eq0-clause-marked t c = with_residues_leaf c.args.pairs.now c.args.residues.now c.args.height c.args.item c.if-height-eq0.true

pub tree_with-requires : goal.tree_with-requires
tree_with-requires t c = (
  omega (arith, c.decreases, c.if-height-eq0.false),
  (
    omega (arith, c.requires.height),
    (
      omega (arith, c.if-index-half.true, c.size_of-half.ensures),
      (
        left_tree c.args.pairs.now c.args.height c.args.node c.get-halves.result c.get-halves.ensures (omega (arith, c.if-height-eq0.false)) c.requires.tree,
        left_with_residues c.args.pairs.now c.args.residues.now c.args.height c.args.node c.get-halves.result c.get-halves.ensures (omega (arith, c.if-height-eq0.false)) c.requires.marked,
      ),
    ),
  ),
)

pub insert_known-requires-clause-trees : goal.insert_known-requires-clause-trees
insert_known-requires-clause-trees t c =
    let right = right_tree c.args.pairs.now c.args.height c.args.node c.get-halves.result c.get-halves.ensures (omega (arith, c.if-height-eq0.false)) c.requires.tree in
    (c.in_ok-left.ensures.made.tree, tree_kept c.args.pairs.now c.tree_with.new.pairs (c.args.height - 1) c.get-halves.result.1 c.tree_with.ensures.more right)

pub insert_known-requires-clause-marked : goal.insert_known-requires-clause-marked
insert_known-requires-clause-marked t c =
    let right = right_tree c.args.pairs.now c.args.height c.args.node c.get-halves.result c.get-halves.ensures (omega (arith, c.if-height-eq0.false)) c.requires.tree in
    let marked = right_with_residues c.args.pairs.now c.args.residues.now c.args.height c.args.node c.get-halves.result c.get-halves.ensures (omega (arith, c.if-height-eq0.false)) c.requires.marked in (
      c.in_ok-left.ensures.marked,
      with_residues_kept c.args.pairs.now c.tree_with.new.pairs c.args.residues.now c.tree_with.new.residues (c.args.height - 1) c.get-halves.result.1 c.tree_with.ensures.more c.tree_with.ensures.grown right marked,
    )

pub returns-then-index-half-clause-made : goal.returns-then-index-half-clause-made
returns-then-index-half-clause-made t c =
    IfOk-weaker c.insert_known.result _ _
    (λ made node. left_with c.args.pairs.now c.tree_with.new.pairs c.insert_known.new.pairs c.args.height c.args.node c.get-halves.result c.get-halves.ensures (omega (arith, c.if-height-eq0.false)) c.requires.tree
    c.tree_with.ensures.more c.insert_known.ensures.more c.args.index c.args.item c.in_ok-left.left made (omega (arith, c.if-index-half.true, c.size_of-half.ensures)) c.in_ok-left.ensures.made node)
    c.insert_known.ensures.node

pub tree_with-requires-2 : goal.tree_with-requires-2
tree_with-requires-2 t c = (
  omega (arith, c.decreases, c.if-height-eq0.false),
  (
    omega (arith, c.requires.height),
    (
      index_behind c.args.height c.args.index c.size_of-half.result (omega (arith, c.if-height-eq0.false)) c.size_of-half.ensures c.if-index-half.false c.requires.within,
      (
        right_tree c.args.pairs.now c.args.height c.args.node c.get-halves.result c.get-halves.ensures (omega (arith, c.if-height-eq0.false)) c.requires.tree,
        right_with_residues c.args.pairs.now c.args.residues.now c.args.height c.args.node c.get-halves.result c.get-halves.ensures (omega (arith, c.if-height-eq0.false)) c.requires.marked,
      ),
    ),
  ),
)

pub insert_known-requires-2-clause-trees : goal.insert_known-requires-2-clause-trees
insert_known-requires-2-clause-trees t c =
    let left = left_tree c.args.pairs.now c.args.height c.args.node c.get-halves.result c.get-halves.ensures (omega (arith, c.if-height-eq0.false)) c.requires.tree in
    (tree_kept c.args.pairs.now c.tree_with-2.new.pairs (c.args.height - 1) c.get-halves.result.0 c.tree_with-2.ensures.more left, c.in_ok-right.ensures.made.tree)

pub insert_known-requires-2-clause-marked : goal.insert_known-requires-2-clause-marked
insert_known-requires-2-clause-marked t c =
    let left = left_tree c.args.pairs.now c.args.height c.args.node c.get-halves.result c.get-halves.ensures (omega (arith, c.if-height-eq0.false)) c.requires.tree in
    let marked = left_with_residues c.args.pairs.now c.args.residues.now c.args.height c.args.node c.get-halves.result c.get-halves.ensures (omega (arith, c.if-height-eq0.false)) c.requires.marked in (
      with_residues_kept c.args.pairs.now c.tree_with-2.new.pairs c.args.residues.now c.tree_with-2.new.residues (c.args.height - 1) c.get-halves.result.0 c.tree_with-2.ensures.more c.tree_with-2.ensures.grown left marked,
      c.in_ok-right.ensures.marked,
    )

pub returns-clause-made : goal.returns-clause-made
returns-clause-made t c =
    IfOk-weaker c.insert_known-2.result _ _
    (λ made node. right_with c.args.pairs.now c.tree_with-2.new.pairs c.insert_known-2.new.pairs c.args.height c.args.node c.get-halves.result c.get-halves.ensures (omega (arith, c.if-height-eq0.false)) c.requires.tree
    c.tree_with-2.ensures.more c.insert_known-2.ensures.more c.args.index c.args.item c.size_of-half.result c.in_ok-right.right made c.size_of-half.ensures c.if-index-half.false c.in_ok-right.ensures.made node)
    c.insert_known-2.ensures.node
