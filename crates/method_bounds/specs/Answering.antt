-- How answers are written: of some methods by causes, and of the others by bounds.
use Rattle.std.specs.Prelude.{◌≡◌, ◌⊎◌, ℕ, List, length, Contains, Option, Some, None, slice_get}
use Rattle.bound_finder.specs.declared.ending.MethodBound.{MethodBound}
use Rattle.bound_finder.specs.declared.ending.MethodBound.TheVariants as bounds
use Rattle.answer_lines.specs.declared.bound.BoundCause.{BoundCause}
use Rattle.answer_lines.specs.declared.bound.BoundCause.TheVariants as causes
use Rattle.method_bounds.specs.declared.answer.BoundAnswer.{BoundAnswer}
use Rattle.method_bounds.specs.declared.answer.BoundAnswer.TheVariants.{Cycles, Never, Refused}

-- where only a size may forbid a bound
abbrev pub answer_by : MethodBound → BoundAnswer
answer_by (bounds.Printed (Some n)) = Cycles n
answer_by (bounds.Printed None) = Never
answer_by (bounds.TooLarge m) = Refused (causes.TooLarge m)

-- where this forbids one
abbrev pub refused_by : Option BoundCause → BoundAnswer
refused_by (Some cause) = Refused cause
refused_by None = Never

-- the answer of the method at a place of the order is written by the bound at this place
pub record IsWrittenBy (order : List ℕ) (found : List MethodBound) (m : ℕ) (x : BoundAnswer) : Type 0 where
  pub place : ℕ
  pub bound : MethodBound
  pub method : slice_get order place ≡ Some m
  pub at : slice_get found place ≡ Some bound
  pub is : x ≡ answer_by bound

-- the answers of the methods of the order are written so, and each other stays
pub record AreWritten (order : List ℕ) (found : List MethodBound) (old new : List BoundAnswer) : Type 0 where
  pub long : length new ≡ length old
  pub each : (m : ℕ) (x : BoundAnswer) → slice_get new m ≡ Some x → IsWrittenBy order found m x ⊎ ((¬ Contains order m) × (slice_get old m ≡ Some x))
