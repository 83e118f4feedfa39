use Rattle.std.proofs.Common.{◌≡◌}
use Rattle.resolved_program.proofs.InstanceLemmas.{first_counts}
use Rattle.resolved_program.proofs.instances.instances_of.Given as goal

abbrev pub invariant-loop-class : goal.invariant-loop-class
invariant-loop-class l = l.counts.items ≡ first_counts l.classes l.class
