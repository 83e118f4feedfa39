use Rattle.std.proofs.Common.{◌≡◌, ℕ, length, Some}
use Rattle.std.specs.Prelude.{slice_get}
use Rattle.std.specs.Option.{IsSomeAnd}
use Rattle.program_tables.specs.declared.operand.MethodShape.{MethodShape}
use Rattle.program_tables.specs.Meanings.{HasShape}
use Rattle.program_tables.specs.Resolved.{resolved_methods}
use Rattle.program_tables.proofs.shapes.shapes_of.Given as goal

abbrev pub invariant-loop-number : goal.invariant-loop-number
invariant-loop-number l =
    (length l.made.items ≡ l.number) × ((n : ℕ) (s : MethodShape) → slice_get l.made.items n ≡ Some s → IsSomeAnd (slice_get (resolved_methods l.texts) n) (HasShape s))
