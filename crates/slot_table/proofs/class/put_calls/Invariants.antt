use Rattle.std.proofs.Common.{◌≡◌, ◌++◌, take}
use Rattle.std.specs.List.{flat_map}
use Rattle.slot_table.specs.Executive.{call_of}
use Rattle.slot_table.proofs.class.put_calls.Given as goal

abbrev pub invariant-loop-slot : goal.invariant-loop-slot
invariant-loop-slot l = l.pieces.items ≡ l.initial.pieces.items ++ flat_map call_of (take l.slot-index l.slots)
