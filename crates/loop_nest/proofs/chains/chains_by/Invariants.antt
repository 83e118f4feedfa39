use Rattle.std.proofs.Common.{map}
use Rattle.loop_nest.specs.Chains.{AreBlocksBelow}
use Rattle.loop_nest.proofs.chains.chains_by.Given as goal

abbrev pub invariant-loop-u : goal.invariant-loop-u
invariant-loop-u l = AreBlocksBelow l.g l.u (map (λ ns. ns.items) l.chains.items)
