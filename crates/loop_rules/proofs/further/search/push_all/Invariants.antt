use Rattle.std.proofs.Common.{◌≡◌, ◌++◌, map, take}
use Rattle.loop_rules.specs.Further.Search.{back_from}
use Rattle.loop_rules.proofs.further.search.push_all.Given as goal

abbrev pub invariant-loop-node : goal.invariant-loop-node
invariant-loop-node l = l.stack.items ≡ l.initial.stack.items ++ map (back_from l.backs) (take l.node-index l.nodes)
