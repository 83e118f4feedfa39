use Rattle.std.proofs.Common.{◌-◌, ◌∙◌, arith}
use Rattle.std.proofs.lemmas.Result.{IfOk-weaker}
use Rattle.persistent_lists.proofs.TreeLemmas.{split_size, tree_kept}
use Rattle.persistent_lists.proofs.ResidueLemmas.{with_residues_leaf, with_residues_kept}
use Rattle.persistent_lists.proofs.FillLemmas.{filled_leaf, filled_short, filled_long}
use Rattle.persistent_lists.proofs.trees.+tree_of.Goals as goal

pub returns-then-height-eq0-clause-filled : goal.returns-then-height-eq0-clause-filled
returns-then-height-eq0-clause-filled t c = filled_leaf c.args.pairs.now c.args.height c.args.given.now c.args.rest c.first_or-node.result c.if-height-eq0.true c.first_or-node.ensures

pub returns-then-height-eq0-clause-marked : goal.returns-then-height-eq0-clause-marked
returns-then-height-eq0-clause-marked t c =
    (with_residues_leaf c.args.pairs.now c.args.residues.now c.args.height c.first_or-node.result c.if-height-eq0.true, with_residues_leaf c.args.pairs.now c.args.residues.now c.args.height c.args.rest c.if-height-eq0.true)

pub returns-then-given-half-clause-filled : goal.returns-then-given-half-clause-filled
returns-then-given-half-clause-filled t c =
    IfOk-weaker c.join.result _ _
    (λ made nodes. filled_short c.tree_of.new.pairs c.join.new.pairs c.args.height c.args.rest c.join.ensures.more (omega (arith, c.if-height-eq0.false))
    c.args.given.now c.in_ok-left.left.node c.in_ok-left.left.rest made.node made.rest c.in_ok-left.ensures.filled (omega (arith, c.if-given-half.true, c.size_of-half.ensures)) nodes.0 nodes.1)
    c.join.ensures.nodes

pub tree_of-requires-3 : goal.tree_of-requires-3
tree_of-requires-3 t c = (
  omega (arith, c.decreases, c.if-height-eq0.false),
  (omega (arith, c.requires.height), omega (arith, c.split_at.ensures.back_len, c.requires.room, c.size_of-half.ensures, split_size c.args.height (omega (arith, c.if-height-eq0.false)))),
)

pub join-requires-2-clause-trees : goal.join-requires-2-clause-trees
join-requires-2-clause-trees t c = (
  tree_kept c.tree_of-2.new.pairs c.tree_of-3.new.pairs (c.args.height - 1) c.in_ok-left-2.left.node c.tree_of-3.ensures.more c.in_ok-left-2.ensures.filled.tree,
  c.in_ok-right.ensures.filled.tree,
  tree_kept c.tree_of-2.new.pairs c.tree_of-3.new.pairs (c.args.height - 1) c.in_ok-left-2.left.rest c.tree_of-3.ensures.more c.in_ok-left-2.ensures.filled.rest_tree,
)

pub join-requires-2-clause-marked : goal.join-requires-2-clause-marked
join-requires-2-clause-marked t c = (
  with_residues_kept c.tree_of-2.new.pairs c.tree_of-3.new.pairs c.tree_of-2.new.residues c.tree_of-3.new.residues (c.args.height - 1) c.in_ok-left-2.left.node c.tree_of-3.ensures.more c.tree_of-3.ensures.grown c.in_ok-left-2.ensures.filled.tree
      c.in_ok-left-2.ensures.marked.0,
  c.in_ok-right.ensures.marked.0,
  with_residues_kept c.tree_of-2.new.pairs c.tree_of-3.new.pairs c.tree_of-2.new.residues c.tree_of-3.new.residues (c.args.height - 1) c.in_ok-left-2.left.rest c.tree_of-3.ensures.more c.tree_of-3.ensures.grown c.in_ok-left-2.ensures.filled.rest_tree
      c.in_ok-left-2.ensures.marked.1,
)

pub returns-clause-filled : goal.returns-clause-filled
returns-clause-filled t c =
    IfOk-weaker c.join-2.result _ _
    (λ made nodes. filled_long c.tree_of-2.new.pairs c.tree_of-3.new.pairs c.join-2.new.pairs c.args.height c.args.rest c.tree_of-3.ensures.more c.join-2.ensures.more (omega (arith, c.if-height-eq0.false))
    c.args.given.now c.split_at.result.0.now c.split_at.result.1.now c.in_ok-left-2.left.node c.in_ok-left-2.left.rest c.in_ok-right.right.node c.in_ok-right.right.rest made.node made.rest
    c.split_at.ensures.by_index.0 (c.split_at.ensures.front_len ∙ c.size_of-half.ensures) c.in_ok-left-2.ensures.filled c.in_ok-right.ensures.filled nodes.0 nodes.1)
    c.join-2.ensures.nodes
