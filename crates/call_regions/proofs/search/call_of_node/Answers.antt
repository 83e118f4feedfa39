use Rattle.std.proofs.Common.{arith}
use Rattle.call_regions.proofs.Sorting.{if_none}
use Rattle.call_regions.proofs.search.call_of_node.Goals as goal

pub returns-then-node-eq0-clause-none : goal.returns-then-node-eq0-clause-none
returns-then-node-eq0-clause-none c = if_none c.call_at.result _ _ (λ none d has same. none d has (omega arith)) c.call_at.ensures.none
