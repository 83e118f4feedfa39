-- The lines of the bounds of all methods of a program: of each method with code but the one that starts the program its name, and the number that is
-- printed of it or why none is.
use Rattle.std.specs.Prelude.{◌≡◌, ◌↔◌, ◌==◌, ℕ, suc, ◌<◌, List, [], ◌∷◌, ◌++◌, length, None, Some, IsSome, slice_get, codes, decimal, if◌then◌else◌}
use Rattle.bytecode_model.specs.Program.{Program, body_of}
use Rattle.method_flow.specs.Flow.{Flow}
use Rattle.method_flow.specs.Keeping.{BoundOf}
use Rattle.method_flow.specs.declared.timing.Timing.{Timing}
use Rattle.answer_lines.specs.declared.bound.BoundCause.{BoundCause}
use Rattle.answer_lines.specs.declared.bound.BoundCause.TheVariants.{NoMethod, Recursion, Irreducible, MissingBound, TooLarge}
use Rattle.method_bounds.specs.declared.answer.BoundAnswer.{BoundAnswer}
use Rattle.method_bounds.specs.declared.answer.BoundAnswer.TheVariants.{Cycles, Never, Refused}
use Rattle.method_bounds.specs.Answers.{IsBoundAnswer}

-- the name of the table's method of this number, or what stands for it where the table has none
abbrev pub name_in : Flow → (method : ℕ) → List ℕ
name_in f m = elim (slice_get f.methods m) [ None ↦ codes "#" ++ decimal m | Some k ↦ k.name ]

-- ---- by the names of methods

-- the cause in words
abbrev pub cause_words : (name : ℕ → List ℕ) → BoundCause → List ℕ
cause_words name NoMethod = []
cause_words name Recursion = codes "recursion"
cause_words name (Irreducible x) = codes "irreducible " ++ name x
cause_words name (MissingBound x p) = codes "missing bound " ++ (name x ++ (codes " " ++ decimal p))
cause_words name (TooLarge x) = codes "too large " ++ name x

-- what stands behind the method's name
abbrev pub answer_words : (name : ℕ → List ℕ) → BoundAnswer → List ℕ
answer_words name (Cycles n) = codes " bound=" ++ (decimal n ++ codes "\n")
answer_words name Never = codes " bound=never\n"
answer_words name (Refused cause) = codes " bound=none " ++ (cause_words name cause ++ codes "\n")

-- the method's line
abbrev pub bound_line : (name : ℕ → List ℕ) → (method : ℕ) → BoundAnswer → List ℕ
bound_line name m x = name m ++ answer_words name x

-- which the method that starts the program has not
abbrev pub line_beside : (boot : ℕ) → (name : ℕ → List ℕ) → (method : ℕ) → BoundAnswer → List ℕ
line_beside boot name m x = if m == boot then [] else bound_line name m x

-- the lines of the methods from this one on, of which these are the answers
abbrev pub lines_from : (boot : ℕ) → (name : ℕ → List ℕ) → (method : ℕ) → List BoundAnswer → List ℕ
lines_from boot name m [] = []
lines_from boot name m (x ∷ xs) = line_beside boot name m x ++ lines_from boot name (suc m) xs

-- ---- of a program

-- the text has the lines of all methods with code, by number, with what is answered of each
pub record AreBoundLines (P : Program) (t : Timing) (bound_of : BoundOf) (name : ℕ → List ℕ) (text : List ℕ) : Type 0 where
  pub answers : List BoundAnswer
  pub coded : (m : ℕ) → IsSome (body_of P m) ↔ (m < length answers)
  pub each : (m : ℕ) (x : BoundAnswer) → slice_get answers m ≡ Some x → IsBoundAnswer P t bound_of m x
  pub text_is : text ≡ lines_from P.boot name 0 answers
