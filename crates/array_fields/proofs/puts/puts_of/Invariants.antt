use Rattle.program_tables.specs.Resolved.{resolved}
use Rattle.array_fields.specs.Puts.{ArePutsBelow}
use Rattle.array_fields.proofs.puts.puts_of.Given as goal

abbrev pub invariant-loop-number : goal.invariant-loop-number
invariant-loop-number l = ArePutsBelow (resolved l.program) l.tables l.number l.puts.items
