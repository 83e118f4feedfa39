-- What is answered of a method is the only answer, whichever body answers it.
use Rattle.std.specs.Prelude.{◌≡◌, ℕ, List, IsSome}
use Rattle.bytecode_model.specs.Program.{Program, body_of}
use Rattle.bytecode_typing.specs.Typed.{Typing, Typed}
use Rattle.bytecode_typing.specs.Lawful.{Lawful}
use Rattle.method_flow.specs.Keeping.{BoundOf}
use Rattle.method_flow.specs.declared.timing.Timing.{Timing}
use Rattle.bound_laws.specs.Existing.{HaveOwnCosts}
use Rattle.method_bounds.specs.declared.answer.BoundAnswer.{BoundAnswer}
use Rattle.method_bounds.specs.Answers.{IsBoundAnswer}
use Rattle.method_bounds.specs.Lines.{AreBoundLines}

-- A program that is typed, each of whose nodes has a cost: as each is that comes of verified classes, with the waits that a machine can have.
pub record IsCosted (P : Program) (t : Timing) : Type 0 where
  pub types : Typing
  pub typed : Typed P types
  pub lawful : Lawful P
  pub costs : HaveOwnCosts P t

-- A method with code has one number, or never ends, or has one cause why no number is given.
abbrev pub AnswersAreOne : Type 0
AnswersAreOne =
    (P : Program) (t : Timing) (bound_of : BoundOf) (m : ℕ) (a b : BoundAnswer) → IsCosted P t → IsSome (body_of P m)
    → IsBoundAnswer P t bound_of m a → IsBoundAnswer P t bound_of m b → a ≡ b

-- So the lines of all methods are one text, where these are their names.
abbrev pub BoundLinesAreOne : Type 0
BoundLinesAreOne =
    (P : Program) (t : Timing) (bound_of : BoundOf) (name : ℕ → List ℕ) (text other : List ℕ) → IsCosted P t → AreBoundLines P t bound_of name text
    → AreBoundLines P t bound_of name other → text ≡ other
