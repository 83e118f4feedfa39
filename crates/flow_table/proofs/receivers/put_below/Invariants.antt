use Rattle.std.proofs.Common.{take}
use Rattle.flow_table.specs.Receivers.{lists_of, IsPut}
use Rattle.flow_table.proofs.receivers.put_below.Given as goal

abbrev pub invariant-loop-upper : goal.invariant-loop-upper
invariant-loop-upper l = IsPut l.class (take l.upper-index l.uppers) (lists_of l.initial.below.items) (lists_of l.below.items)
