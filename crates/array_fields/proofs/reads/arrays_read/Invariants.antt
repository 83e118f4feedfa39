use Rattle.std.proofs.Common.{ℕ, ℤ, Option}
use Rattle.program_tables.specs.Resolved.{resolved}
use Rattle.array_fields.specs.Lengths.{AreArraysBelow, known_by}
use Rattle.array_fields.proofs.reads.arrays_read.Given as goal

abbrev pub invariant-loop-number : goal.invariant-loop-number
invariant-loop-number l = (constants : ℕ → Option ℤ) → AreArraysBelow (resolved l.program) (known_by constants l.arrays) l.number l.methods.items
