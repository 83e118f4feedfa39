use Rattle.program_tables.specs.Resolved.{resolved}
use Rattle.array_fields.specs.Lengths.{AreClassLengths}
use Rattle.array_fields.proofs.lengths.class_lengths.Given as goal

abbrev pub invariant-loop-class : goal.invariant-loop-class
invariant-loop-class l = AreClassLengths (resolved l.program) l.puts l.class l.lengths.items
