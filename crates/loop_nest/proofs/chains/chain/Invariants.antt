use Rattle.std.proofs.Common.{suc, ◌-◌, length}
use Rattle.loop_nest.specs.Chains.{IsChainFrom}
use Rattle.loop_nest.proofs.chains.chain.Given as goal

abbrev pub invariant-loop-v : goal.invariant-loop-v
invariant-loop-v l = IsChainFrom l.g l.fn.first l.last l.nodes.items

abbrev pub decreases-loop-v : goal.decreases-loop-v
decreases-loop-v l = suc l.g.nodes - length l.nodes.items
