-- The states that fit a typing: each value has the type that the typing or its declaration gives it.
use Rattle.std.specs.Prelude.{◌≡◌, ℕ, ◌^◌, ◌<◌, ◌≤◌, Bool, true, ◌||◌, List, [], ◌∷◌, ◌++◌, map, length, Option, Some, None, IfSome, slice_get, FitsSigned}
use Rattle.std.specs.Int.{w32, w64}
use Rattle.std.specs.Option.{IsSomeAnd}
use Rattle.bytecode_model.specs.declared.Value.{Value}
use Rattle.bytecode_model.specs.declared.Value.TheVariants.{Int, Long, Ref, Null}
use Rattle.bytecode_model.specs.declared.Ending.{Ending}
use Rattle.bytecode_model.specs.declared.Ending.TheVariants.{Running, Raising, Ended, Uncaught}
use Rattle.bytecode_model.specs.Lists.{onto}
use Rattle.bytecode_model.specs.Types.{IntType, LongType, Kind, OfClass, OfNumbers, OfReferences, Declared, Numeric, Reference, is_long, element_type}
use Rattle.bytecode_model.specs.State.{Object, Frame, State}
use Rattle.bytecode_model.specs.Program.{Program, Limits, Method, Body, kind_of, is_of, throwable_class}
use Rattle.bytecode_model.specs.Rows.{Row, CallStatic, CallSpecial, CallVirtual, CallInterface}
use Rattle.bytecode_model.specs.Sizes.{made_words, frames_words}
use Rattle.bytecode_model.specs.Effects.{has_class}
use Rattle.bytecode_model.specs.Steps.{row_in}
use Rattle.bytecode_model.specs.WellFormed.{IsValue, AreSpaced, first_method}
use Rattle.bytecode_typing.specs.Tests.{Holds, AllTwo}
use Rattle.bytecode_typing.specs.Types.{VarType, Top, Integer, LongInteger, NullReference, UninitializedThis, Uninitialized, ReferenceTo, TypeFrame}
use Rattle.bytecode_typing.specs.Types.{is_long_type, result_types}
use Rattle.bytecode_typing.specs.Assignable.{flows_to}
use Rattle.bytecode_typing.specs.Checks.{made_at}
use Rattle.bytecode_typing.specs.Typed.{Typing}

-- ---- values

-- An object of the first kind may be where the typing has a reference to the second. As the verifier takes every class for an interface, an interface is
-- met by every object, arrays too.
abbrev pub may_be : Program → Kind → Kind → Bool
may_be P (OfReferences k) (OfReferences l) = may_be P k l
may_be P k (OfClass d) = P.is_interface d || is_of P k (OfClass d)
may_be P k l = is_of P k l

-- the kind of object p, where the objects are of these type numbers
abbrev pub kind_in : Program → (numbers : List ℕ) → (object : ℕ) → Option Kind
kind_in P ks p = onto (slice_get ks p) (λ t. slice_get P.types t)

-- a value has a declared type
abbrev pub HasDeclared : Program → (numbers : List ℕ) → Declared → Value → Type 0
HasDeclared P ks (Numeric IntType) (Int i) = FitsSigned w32 i
HasDeclared P ks (Numeric LongType) (Long i) = FitsSigned w64 i
HasDeclared P ks (Reference l) Null = Unit {0}
HasDeclared P ks (Reference l) (Ref p) = IsSomeAnd (kind_in P ks p) (λ k. Holds (may_be P k l))
HasDeclared P ks d v = ⊥

-- a value of a frame of method m, of number n, has a verification type. What isn't initialised is an object of the class that its `new` names, or for `this` of
-- the method's class or a subclass.
abbrev pub Has : Program → (n : ℕ) → Method → (numbers : List ℕ) → VarType → Value → Type 0
Has P n m ks Top v = IsValue (length ks) v
Has P n m ks Integer (Int i) = FitsSigned w32 i
Has P n m ks LongInteger (Long i) = FitsSigned w64 i
Has P n m ks NullReference Null = Unit {0}
Has P n m ks UninitializedThis (Ref p) = IsSomeAnd (kind_in P ks p) (λ k. Holds (has_class P (Some k) m.owner))
Has P n m ks (Uninitialized place) (Ref p) = IsSomeAnd (kind_in P ks p) (λ k. IsSomeAnd (made_at P n place) (λ c. k ≡ OfClass c))
Has P n m ks (ReferenceTo l) Null = Unit {0}
Has P n m ks (ReferenceTo l) (Ref p) = IsSomeAnd (kind_in P ks p) (λ k. Holds (may_be P k l))
Has P n m ks t v = ⊥

-- on the operand stack it also takes the words of its type; a local variable of type Top may hold a Long
abbrev pub HasItem : Program → (n : ℕ) → Method → (numbers : List ℕ) → VarType → Value → Type 0
HasItem P n m ks t v = Has P n m ks t v × (is_long v ≡ is_long_type t)

-- a result of a declared type, or none
abbrev pub HasResult : Program → (numbers : List ℕ) → Option Declared → Option Value → Type 0
HasResult P ks None None = Unit {0}
HasResult P ks (Some d) (Some v) = HasDeclared P ks d v
HasResult P ks d v = ⊥

-- ---- objects

abbrev pub HasEach : Program → (numbers : List ℕ) → Declared → List Value → Type 0
HasEach P ks d [] = Unit {0}
HasEach P ks d (v ∷ vs) = HasDeclared P ks d v × HasEach P ks d vs

-- an instance has the fields of its class, which isn't abstract; an array has elements of its component type, as many as an int counts
abbrev pub PartsFit : Program → (numbers : List ℕ) → Kind → List Value → Type 0
PartsFit P ks (OfClass c) vs = (P.is_concrete c ≡ true) × AllTwo (HasDeclared P ks) (P.fields c) vs
PartsFit P ks (OfNumbers code) vs = (length vs < 2 ^ 31) × HasEach P ks (Numeric (element_type code)) vs
PartsFit P ks (OfReferences k) vs = (length vs < 2 ^ 31) × HasEach P ks (Reference k) vs

abbrev pub ObjectFits : Program → (numbers : List ℕ) → Object → Type 0
ObjectFits P ks o = IsSomeAnd (kind_of P o) (λ k. PartsFit P ks k o.parts)

-- the objects begin with these, with their types and lengths
abbrev pub BeginWith : (first objects : List Object) → Type 0
BeginWith [] os = Unit {0}
BeginWith (x ∷ xs) [] = ⊥
BeginWith (x ∷ xs) (o ∷ os) = (o.kind ≡ x.kind) × (length o.parts ≡ length x.parts) × BeginWith xs os

abbrev pub numbers_of : List Object → List ℕ
numbers_of os = map (λ o. o.kind) os

-- an object that may be raised is a Throwable
abbrev pub IsThrowable : Program → (numbers : List ℕ) → (object : ℕ) → Type 0
IsThrowable P ks p = IsSomeAnd (kind_in P ks p) (λ k. Holds (is_of P k (OfClass throwable_class)))

-- ---- frames

-- a frame stands where its method has a frame of types, and its local variables have these types
pub record FrameFits (P : Program) (types : Typing) (ks : List ℕ) (f : Frame) : Type 0 where
  pub method : Method
  pub at_method : slice_get P.methods f.method ≡ Some method
  pub body : Body
  pub at_body : method.body ≡ Some body
  pub frame : TypeFrame
  pub at_place : types f.method f.pc ≡ Some frame
  pub count : length f.locals ≡ body.max_locals
  pub spaced : AreSpaced f.locals
  pub locals : AllTwo (Has P f.method method ks) frame.locals f.locals

-- and so has each operand
pub record TopFits (P : Program) (types : Typing) (ks : List ℕ) (f : Frame) : Type 0 where
  pub fits : FrameFits P types ks f
  pub operands : AllTwo (HasItem P f.method fits.method ks) fits.frame.stack f.operands

-- the row may have made a frame of the method
abbrev pub MayHaveCalled : Program → Row → (callee : ℕ) → Type 0
MayHaveCalled P (CallStatic c) callee = c ≡ callee
MayHaveCalled P (CallSpecial named c) callee = c ≡ callee
MayHaveCalled P (CallVirtual named c) callee = (receiver : ℕ) × (P.select receiver c ≡ Some callee)
MayHaveCalled P (CallInterface named c) callee = (receiver : ℕ) × (P.select receiver c ≡ Some callee)
MayHaveCalled P r callee = ⊥

-- A caller stands at an invoke that may have made the callee's frame. Its operands are what is left below the arguments, and with the callee's result on them
-- control goes on behind the invoke.
pub record Waits (P : Program) (types : Typing) (ks : List ℕ) (callee : ℕ) (f : Frame) : Type 0 where
  pub fits : FrameFits P types ks f
  pub next : ℕ
  pub row : Row
  pub at_invoke : row_in P f.method f.pc ≡ Some (next, row)
  pub may_call : MayHaveCalled P row callee
  pub after : TypeFrame
  pub rest : List VarType
  pub flows : Holds (flows_to P after (types f.method next))
  pub locals : AllTwo (Has P f.method fits.method ks) after.locals f.locals
  pub stack : IsSomeAnd (slice_get P.methods callee) (λ k. after.stack ≡ result_types k.result ++ rest)
  pub operands : AllTwo (HasItem P f.method fits.method ks) rest f.operands

abbrev pub CallersFit : (P : Program) → Typing → (numbers : List ℕ) → (callee : ℕ) → List Frame → Type 0
CallersFit P types ks callee [] = Unit {0}
CallersFit P types ks callee (f ∷ fs) = Waits P types ks callee f × CallersFit P types ks f.method fs

-- while an object is raised and where none caught it, the top frame has no operands
abbrev pub TopFitsMode : (P : Program) → Typing → (numbers : List ℕ) → Ending → Frame → Type 0
TopFitsMode P types ks Running f = TopFits P types ks f
TopFitsMode P types ks Ended f = TopFits P types ks f
TopFitsMode P types ks (Raising p) f = FrameFits P types ks f × (f.operands ≡ []) × IsThrowable P ks p
TopFitsMode P types ks (Uncaught c) f = FrameFits P types ks f × (f.operands ≡ [])

-- there is a first frame
abbrev pub FramesFit : (P : Program) → Typing → (numbers : List ℕ) → Ending → List Frame → Type 0
FramesFit P types ks mode [] = ⊥
FramesFit P types ks mode (f ∷ fs) = TopFitsMode P types ks mode f × CallersFit P types ks f.method fs

-- ---- states

pub record Fits (P : Program) (types : Typing) (limits : Limits) (s : State) : Type 0 where
  pub frames : FramesFit P types (numbers_of s.objects) s.mode s.frames
  pub boot : first_method s.frames ≡ Some P.boot
  pub objects : (p : ℕ) → IfSome (slice_get s.objects p) (ObjectFits P (numbers_of s.objects))
  pub first : BeginWith P.first_objects s.objects
  pub statics : AllTwo (HasDeclared P (numbers_of s.objects)) P.statics s.statics
  pub frame_sum : frames_words P s.frames ≤ limits.frames
  pub heap_sum : made_words P s ≤ limits.heap

-- a state that hasn't ended
abbrev pub IsGoing : Ending → Type 0
IsGoing Running = Unit {0}
IsGoing (Raising p) = Unit {0}
IsGoing Ended = ⊥
IsGoing (Uncaught c) = ⊥
