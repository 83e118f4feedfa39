-- Typed programs: JVM Specification SE 8, 4.10.1.6. Each instruction that may run has a frame of types, which its rules take to those that follow.
use Rattle.std.specs.Prelude.{◌≡◌, ℕ, ◌≤◌, ℤ, false, List, [], ◌∷◌, Option, Some, IfSome, slice_get}
use Rattle.std.specs.Option.{IsSomeAnd}
use Rattle.opcodes.specs.Start.{IsStart}
use Rattle.bytecode_model.specs.Types.{NumberType}
use Rattle.bytecode_model.specs.Program.{Program, Method, Body}
use Rattle.bytecode_model.specs.Rows as rows
use Rattle.bytecode_model.specs.Rows.{Row, FunctionOf}
use Rattle.bytecode_model.specs.Steps.{row_in}
use Rattle.bytecode_typing.specs.Tests.{Holds}
use Rattle.bytecode_typing.specs.Types.{TypeFrame, stack_words}
use Rattle.bytecode_typing.specs.Assignable.{flows_to}
use Rattle.bytecode_typing.specs.Rules.{Checked, Fails, Leaves}
use Rattle.bytecode_typing.specs.Checks.{row_check}
use Rattle.bytecode_typing.specs.Walk.{first_types, handlers_hold}

-- the frame of types before the instruction at a place of a method
abbrev pub Typing : Type 0
Typing = (method pc : ℕ) → Option TypeFrame

-- no rule fails, and K holds of the frame behind the instruction
abbrev pub IsChecked : Checked → (Option TypeFrame → Type 0) → Type 0
IsChecked (Fails r) K = ⊥
IsChecked (Leaves after access init target) K = Holds access × Holds init × Holds target × K after

-- control goes on at the place with this frame, if the instruction falls through
abbrev pub GoesOn : Program → (frames : ℕ → Option TypeFrame) → (next : ℕ) → (after : Option TypeFrame) → Type 0
GoesOn P frames next after = IfSome after (λ g. Holds (flows_to P g (frames next)))

-- the instruction at pc, before which the frame f stands
pub record IsTypedAt (P : Program) (n : ℕ) (m : Method) (b : Body) (frames : ℕ → Option TypeFrame) (pc : ℕ) (f : TypeFrame) : Type 0 where
  pub start : IsStart b.code pc
  pub room : stack_words f.stack ≤ b.max_stack
  pub row : IsSomeAnd (row_in P n pc) (λ x. IsChecked (row_check P n m b frames pc f x.1) (GoesOn P frames x.0))
  pub handlers : Holds (handlers_hold P frames pc f b.handlers)

-- the method begins with its first frame, and each place that has a frame keeps the rules
pub record IsTypedMethod (P : Program) (n : ℕ) (m : Method) (b : Body) (frames : ℕ → Option TypeFrame) : Type 0 where
  pub first : IsSomeAnd (first_types m b) (λ f. Holds (flows_to P f (frames 0)))
  pub places : (pc : ℕ) → IfSome (frames pc) (IsTypedAt P n m b frames pc)

-- the function gives a number whatever it is given
abbrev pub IsTotal : (taken : List NumberType) → FunctionOf taken (Option ℤ) → Type 0
IsTotal [] r = IsSomeAnd r (λ n. Unit {0})
IsTotal (t ∷ ts) compute = (n : ℤ) → IsTotal ts (compute n)

-- a row that raises nothing: what a program has that comes of no class files, and so has no objects to raise
abbrev pub RaisesNothing : Row → Type 0
RaisesNothing rows.Nothing = Unit {0}
RaisesNothing (rows.Push v) = Unit {0}
RaisesNothing (rows.Compute taken given compute) = IsTotal taken compute
RaisesNothing (rows.Load sort k) = Unit {0}
RaisesNothing (rows.Store sort k) = Unit {0}
RaisesNothing (rows.Shuffle form upper lower) = Unit {0}
RaisesNothing (rows.Return given) = Unit {0}
RaisesNothing rows.Write = Unit {0}
RaisesNothing r = ⊥

pub record Typed (P : Program) (types : Typing) : Type 0 where
  pub methods : (n : ℕ) (m : Method) (b : Body) → slice_get P.methods n ≡ Some m → m.body ≡ Some b → IsTypedMethod P n m b (types n)
  pub quiet : P.linked ≡ false → (n pc : ℕ) → IfSome (types n pc) (λ f. IsSomeAnd (row_in P n pc) (λ x. RaisesNothing x.1))
