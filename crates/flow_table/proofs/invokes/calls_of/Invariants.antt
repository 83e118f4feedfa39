use Rattle.std.proofs.Common.{◌≡◌, take}
use Rattle.std.specs.List.{filter_map}
use Rattle.program_tables.specs.Resolved.{resolved}
use Rattle.flow_table.specs.Invokes.{call_at}
use Rattle.flow_table.proofs.invokes.calls_of.Given as goal

abbrev pub invariant-loop-place : goal.invariant-loop-place
invariant-loop-place l = l.calls.items ≡ filter_map (call_at (resolved l.program) l.coded l.method) (take l.place-index l.place-items)
