use Rattle.std.proofs.Common.{◌≡◌, map, take}
use Rattle.flow_table.specs.Made.{range_at}
use Rattle.flow_table.proofs.methods.ranges_of.Given as goal

abbrev pub invariant-loop-entry : goal.invariant-loop-entry
invariant-loop-entry l = l.ranges.items ≡ map range_at (take l.entry-index l.entries)
