-- States that are well formed for a program, whatever its typing: all of a state that the words of a machine rest on.
use Rattle.std.specs.Prelude.{◌≡◌, ℕ, ◌^◌, ◌<◌, ◌≤◌, Bool, true, false, List, [], ◌∷◌, length, map, take, sum_by, replicate, Option, Some, None, FitsSigned}
use Rattle.std.specs.Int.{w32, w64}
use Rattle.std.specs.Option.{IsSomeAnd}
use Rattle.opcodes.specs.Start.{IsStart}
use Rattle.bytecode_model.specs.declared.Value.{Value}
use Rattle.bytecode_model.specs.declared.Value.TheVariants.{Int, Long, Ref, Null, Unset}
use Rattle.bytecode_model.specs.declared.Ending.{Ending}
use Rattle.bytecode_model.specs.declared.Ending.TheVariants.{Running, Raising, Ended, Uncaught}
use Rattle.bytecode_model.specs.Types.{Kind, OfClass, OfNumbers, OfReferences, is_long, zero_of, default, element_type}
use Rattle.bytecode_model.specs.State.{Object, Frame, State}
use Rattle.bytecode_model.specs.Program.{Program, Limits, Body, body_of, kind_of}
use Rattle.bytecode_model.specs.Rows.{Row, CallStatic, CallSpecial, CallVirtual, CallInterface}
use Rattle.bytecode_model.specs.Sizes.{value_words, made_words, frames_words}
use Rattle.bytecode_model.specs.Steps.{row_at}

-- numbers in range, and references to objects that are there
abbrev pub IsValue : (objects : ℕ) → Value → Type 0
IsValue objects (Int n) = FitsSigned w32 n
IsValue objects (Long n) = FitsSigned w64 n
IsValue objects (Ref p) = p < objects
IsValue objects Null = Unit {0}
IsValue objects Unset = Unit {0}

abbrev pub AreValues : (objects : ℕ) → List Value → Type 0
AreValues objects [] = Unit {0}
AreValues objects (v ∷ vs) = IsValue objects v × AreValues objects vs

-- what the input may answer: a byte, or its end
abbrev pub IsInput : Option ℕ → Type 0
IsInput None = Unit {0}
IsInput (Some byte) = byte < 256

-- among the local variables a Long is followed by an unset one
abbrev pub AreSpaced : List Value → Type 0
AreSpaced [] = Unit {0}
AreSpaced (v ∷ []) = is_long v ≡ false
AreSpaced (v ∷ w ∷ vs) = (is_long v ≡ true → w ≡ Unset) × AreSpaced (w ∷ vs)

-- each has the width of the value that stands there at first, and is set
abbrev pub AreAlike : List Value → (first : List Value) → Type 0
AreAlike [] [] = Unit {0}
AreAlike (v ∷ vs) (w ∷ ws) = (is_long v ≡ is_long w) × (v ≡ Unset → ⊥) × AreAlike vs ws
AreAlike vs ws = ⊥

-- the fields or the elements with which an object begins, of which there are so many
abbrev pub first_parts : Program → Kind → (size : ℕ) → List Value
first_parts P (OfClass c) size = map default (P.fields c)
first_parts P (OfNumbers code) size = replicate size (zero_of (element_type code))
first_parts P (OfReferences k) size = replicate size Null

-- the length of an array is an int
abbrev pub IsLength : Kind → (size : ℕ) → Type 0
IsLength (OfClass c) size = Unit {0}
IsLength (OfNumbers code) size = size < 2 ^ 31
IsLength (OfReferences k) size = size < 2 ^ 31

pub record IsObject (P : Program) (objects : ℕ) (o : Object) : Type 0 where
  pub values : AreValues objects o.parts
  pub shape : IsSomeAnd (kind_of P o) (λ k. AreAlike o.parts (first_parts P k (length o.parts)) × IsLength k (length o.parts))

abbrev pub AreObjects : Program → (objects : ℕ) → List Object → Type 0
AreObjects P objects [] = Unit {0}
AreObjects P objects (o ∷ os) = IsObject P objects o × AreObjects P objects os

-- as many local variables as the method has, operands within its limit, and an instruction at its place
pub record IsFrame (P : Program) (objects : ℕ) (f : Frame) (b : Body) : Type 0 where
  pub locals : length f.locals ≡ b.max_locals
  pub spaced : AreSpaced f.locals
  pub local_values : AreValues objects f.locals
  pub operand_values : AreValues objects f.operands
  pub depth : sum_by value_words f.operands ≤ b.max_stack
  pub start : IsStart b.code f.pc

abbrev pub AreFrames : Program → (objects : ℕ) → List Frame → Type 0
AreFrames P objects [] = Unit {0}
AreFrames P objects (f ∷ fs) = IsSomeAnd (body_of P f.method) (IsFrame P objects f) × AreFrames P objects fs

abbrev pub is_call : Row → Bool
is_call (CallStatic m) = true
is_call (CallSpecial named m) = true
is_call (CallVirtual named m) = true
is_call (CallInterface named m) = true
is_call r = false

-- each frame waits at an invoke instruction
abbrev pub AreCallers : Program → List Frame → Type 0
AreCallers P [] = Unit {0}
AreCallers P (f ∷ fs) = IsSomeAnd (row_at P f) (λ x. is_call x.1 ≡ true) × AreCallers P fs

abbrev pub callers_of : List Frame → List Frame
callers_of [] = []
callers_of (f ∷ fs) = fs

-- the method of the first frame, which is the last of the list
abbrev pub first_method : List Frame → Option ℕ
first_method [] = None
first_method (f ∷ []) = Some f.method
first_method (f ∷ g ∷ fs) = first_method (g ∷ fs)

abbrev pub top_operands : List Frame → List Value
top_operands [] = []
top_operands (f ∷ fs) = f.operands

-- while an object is raised and where none caught it, the top frame has no operands
abbrev pub ModeFits : (objects : ℕ) → List Frame → Ending → Type 0
ModeFits objects fs Running = Unit {0}
ModeFits objects fs (Raising p) = (p < objects) × (top_operands fs ≡ [])
ModeFits objects fs Ended = Unit {0}
ModeFits objects fs (Uncaught c) = top_operands fs ≡ []

-- the type and the length of an object
abbrev pub shape_of : Object → ℕ × ℕ
shape_of o = (o.kind, length o.parts)

pub record IsWellFormed (P : Program) (limits : Limits) (s : State) : Type 0 where
  pub first : map shape_of (take (length P.first_objects) s.objects) ≡ map shape_of P.first_objects
  pub objects : AreObjects P (length s.objects) s.objects
  pub statics : AreAlike s.statics (map default P.statics)
  pub static_values : AreValues (length s.objects) s.statics
  pub frames : AreFrames P (length s.objects) s.frames
  pub callers : AreCallers P (callers_of s.frames)
  pub boot : first_method s.frames ≡ Some P.boot
  pub mode : ModeFits (length s.objects) s.frames s.mode
  pub frame_sum : frames_words P s.frames ≤ limits.frames
  pub heap_sum : made_words P s ≤ limits.heap
