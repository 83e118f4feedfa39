use Rattle.std.proofs.Common.{◌≡◌, [], replicate}
use Rattle.flow_table.specs.Receivers.{lists_of}
use Rattle.flow_table.proofs.receivers.empty_lists.Given as goal

abbrev pub invariant-loop-index : goal.invariant-loop-index
invariant-loop-index l = lists_of l.lists.items ≡ replicate l._index []
