use Rattle.std.proofs.Common.{arith}
use Rattle.persistent_lists.proofs.ResidueLemmas.{among_leaf, among_residues}
use Rattle.persistent_lists.proofs.trees.residues_of.Goals as goal

pub returns-then-height-eq0 : goal.returns-then-height-eq0
returns-then-height-eq0 c = λ ps marked. among_leaf ps c.args.height c.args.node c.residue_of.result c.if-height-eq0.true c.residue_of.ensures

pub returns-else-height-eq0 : goal.returns-else-height-eq0
returns-else-height-eq0 c = λ ps marked. among_residues ps c.args.residues.now c.args.height c.args.node c.at.result (omega (arith, c.if-height-eq0.false)) c.at.ensures marked
