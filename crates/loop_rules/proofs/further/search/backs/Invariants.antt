use Rattle.loop_rules.specs.Further.Search.{AreBacksBelow}
use Rattle.loop_rules.proofs.further.search.backs.Given as goal

abbrev pub invariant-loop-node : goal.invariant-loop-node
invariant-loop-node l = AreBacksBelow l.g l.idle l.node l.backs.items
