use Rattle.std.proofs.Common.{◌-◌}
use Rattle.persistent_lists.proofs.TreeLemmas.{tree_kept, tree_joined}
use Rattle.persistent_lists.proofs.ResidueLemmas.{with_residues_kept}
use Rattle.persistent_lists.proofs.trees.join.Goals as goal

pub insert_known-requires-2-clause-trees : goal.insert_known-requires-2-clause-trees
insert_known-requires-2-clause-trees c =
    let tree = tree_kept c.args.pairs.now c.insert_known.new.pairs (c.args.height - 1) c.args.rest c.insert_known.ensures.more c.requires.trees.2 in
    (tree, tree)

pub insert_known-requires-2-clause-marked : goal.insert_known-requires-2-clause-marked
insert_known-requires-2-clause-marked c =
    let marked =
    with_residues_kept c.args.pairs.now c.insert_known.new.pairs c.args.residues.now c.insert_known.new.residues (c.args.height - 1) c.args.rest c.insert_known.ensures.more c.insert_known.ensures.grown c.requires.trees.2 c.requires.marked.2 in
    (marked, marked)

pub returns-clause-marked : goal.returns-clause-marked
returns-clause-marked c =
    let tree =
    tree_joined c.insert_known.new.pairs c.args.height c.in_ok-node.node c.args.halves c.requires.height c.in_ok-node.ensures.node
    (tree_kept c.args.pairs.now c.insert_known.new.pairs (c.args.height - 1) c.args.halves.0 c.insert_known.ensures.more c.requires.trees.0)
    (tree_kept c.args.pairs.now c.insert_known.new.pairs (c.args.height - 1) c.args.halves.1 c.insert_known.ensures.more c.requires.trees.1) in (
      with_residues_kept c.insert_known.new.pairs c.insert_known-2.new.pairs c.insert_known.new.residues c.insert_known-2.new.residues c.args.height c.in_ok-node.node
          c.insert_known-2.ensures.more c.insert_known-2.ensures.grown tree c.in_ok-node.ensures.marked,
      c.in_ok-rest.ensures.marked,
    )
