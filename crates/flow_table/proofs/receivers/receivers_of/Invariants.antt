use Rattle.flow_table.specs.Receivers.{lists_of, AreBelow}
use Rattle.flow_table.proofs.receivers.receivers_of.Given as goal

abbrev pub invariant-loop-class : goal.invariant-loop-class
invariant-loop-class l = AreBelow l.hierarchy l.class (lists_of l.below.items)
