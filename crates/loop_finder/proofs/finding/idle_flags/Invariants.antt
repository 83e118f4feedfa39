use Rattle.loop_finder.specs.Skipping.{AreIdleFlags}
use Rattle.loop_finder.proofs.finding.idle_flags.Given as goal

-- of the first nodes
abbrev pub invariant-loop-node : goal.invariant-loop-node
invariant-loop-node l = AreIdleFlags l.acts l.node l.flags.items
