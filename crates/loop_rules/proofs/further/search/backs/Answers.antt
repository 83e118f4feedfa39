use Rattle.std.proofs.Common.{sym, subst}
use Rattle.loop_rules.specs.Further.Search.{AreBacksBelow}
use Rattle.loop_rules.proofs.FurtherLemmas.Searching.{backs_more}
use Rattle.loop_rules.proofs.further.search.backs.Goals as goal

pub loop-node-preserved : goal.loop-node-preserved
loop-node-preserved c =
    let g = c.args.g.now in
    let before = subst (AreBacksBelow g c.args.idle.now c.loop-node.node) (sym c.deref.ensures.value) c.loop-node.invariant in
    backs_more g c.args.idle.now c.loop-node.node c.loop-node.backs.items c.push.new.self.items c.back_of-back.result c.loop-node.invariant
    (c.back_of-back.ensures g c.requires.sources before) c.in_ok-push.ensures.items
