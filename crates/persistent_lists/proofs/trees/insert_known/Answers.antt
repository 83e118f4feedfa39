use Rattle.persistent_lists.proofs.ResidueLemmas.{with_residues_joined}
use Rattle.persistent_lists.proofs.trees.insert_known.Goals as goal

pub returns-clause-marked : goal.returns-clause-marked
returns-clause-marked c =
    with_residues_joined c.args.pairs.now c.insert.new.self c.args.residues.now c.add.new.self c.args.height c.in_ok-node.node c.residues_of_both-found.result c.args.halves c.requires.height c.insert.ensures.more c.add.ensures.more
    c.requires.trees c.requires.marked (c.residues_of_both-found.ensures c.args.pairs.now c.requires.marked) c.in_ok-node.ensures.node c.in_ok-add.ensures.added
