use Rattle.std.proofs.Common.{◌+◌, sym, subst}
use Rattle.loop_finder.specs.Skipping.{AreIdleFlags}
use Rattle.loop_finder.proofs.Skipping.{idle_more, none_idle}
use Rattle.loop_finder.proofs.finding.idle_flags.Goals as goal

pub loop-node-init : goal.loop-node-init
loop-node-init c = none_idle c.args.acts.now 0 c.in_ok-flags.flags.items c.in_ok-flags.ensures.items

pub loop-node-preserved : goal.loop-node-preserved
loop-node-preserved c =
    let acts = c.args.acts.now in
    let n = c.loop-node.node in
    subst (AreIdleFlags acts (n + 1)) (sym c.in_ok-push.ensures.items) (idle_more acts n c.loop-node.flags.items c.is_idle.result c.loop-node.invariant c.is_idle.ensures)
