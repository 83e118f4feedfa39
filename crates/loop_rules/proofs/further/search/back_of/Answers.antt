use Rattle.std.proofs.Common.{◌∙◌, arith}
use Rattle.loop_rules.specs.Further.Search.Skips.{stay}
use Rattle.loop_rules.proofs.FurtherLemmas.Searching.{skips_past}
use Rattle.loop_rules.proofs.further.search.back_of.Goals as goal

pub returns-then-node-eq0 : goal.returns-then-node-eq0
returns-then-node-eq0 c g s are = (stay, omega arith)

pub returns-then-from-node : goal.returns-then-from-node
returns-then-from-node c g s are =
    let node = c.args.node in
    let from = c.of-from.ensures ∙ s.each node (omega (arith, c.requires.source, s.long)) in
    skips_past g c.args.idle.now node c.args.backs.now c.of-from.result.now from c.if-from-eq1.true c.if-from-node.true c.if-not-idle-node.false are

pub returns-else-from-eq1 : goal.returns-else-from-eq1
returns-else-from-eq1 c g s are = (stay, omega arith)
