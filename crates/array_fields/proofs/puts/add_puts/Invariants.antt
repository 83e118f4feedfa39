use Rattle.std.proofs.Common.{take}
use Rattle.program_tables.specs.Resolved.{resolved}
use Rattle.array_fields.specs.Puts.{HasPutsAt}
use Rattle.array_fields.proofs.puts.add_puts.Given as goal

abbrev pub invariant-loop-place : goal.invariant-loop-place
invariant-loop-place l = HasPutsAt (resolved l.program) l.tables l.method (take l.place-index l.starts) l.initial.puts.items l.puts.items
