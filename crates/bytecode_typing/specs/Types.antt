-- The verification types and the frames of types: JVM Specification SE 8, 4.10.1.2 to 4.10.1.4. Of the numbers, int and long.
use Rattle.std.specs.Prelude.{ℕ, ◌==◌, Bool, true, false, if◌then◌else◌, List, [], ◌∷◌, sum_by, Option, Some, None}
use Rattle.bytecode_model.specs.Types.{NumberType, IntType, LongType, Kind, Declared, Numeric, Reference, Moved, Numbers, References}

pub data VarType : Type 0 where
  -- any value, and none of which an instruction knows more
  Top : VarType
  Integer : VarType
  LongInteger : VarType
  NullReference : VarType
  -- `this` in an `<init>` that has called no other yet
  UninitializedThis : VarType
  -- what the `new` at this place made, and no `<init>` has begun
  Uninitialized : (place : ℕ) → VarType
  ReferenceTo : Kind → VarType

-- what is known before an instruction: the types of the local variables, those of the operand stack with the top one first, and whether `this` isn't
-- initialised yet (flagThisUninit, 4.10.1.4). A LongInteger among the locals is followed by Top; on the stack it is one item.
pub record TypeFrame : Type 0 where
  pub locals : List VarType
  pub stack : List VarType
  pub flag : Bool

abbrev pub is_long_type : VarType → Bool
is_long_type Top = false
is_long_type Integer = false
is_long_type LongInteger = true
is_long_type NullReference = false
is_long_type UninitializedThis = false
is_long_type (Uninitialized place) = false
is_long_type (ReferenceTo k) = false

-- words on the operand stack
abbrev pub type_words : VarType → ℕ
type_words t = if is_long_type t then 2 else 1

abbrev pub stack_words : List VarType → ℕ
stack_words ts = sum_by type_words ts

abbrev pub number_type : NumberType → VarType
number_type IntType = Integer
number_type LongType = LongInteger

-- the type as which a declared one is verified
abbrev pub type_of : Declared → VarType
type_of (Numeric t) = number_type t
type_of (Reference k) = ReferenceTo k

abbrev pub result_types : Option Declared → List VarType
result_types None = []
result_types (Some d) = type_of d ∷ []

-- a reference, null or what isn't initialised
abbrev pub is_reference_type : VarType → Bool
is_reference_type Top = false
is_reference_type Integer = false
is_reference_type LongInteger = false
is_reference_type NullReference = true
is_reference_type UninitializedThis = true
is_reference_type (Uninitialized place) = true
is_reference_type (ReferenceTo k) = true

abbrev pub is_initialized : VarType → Bool
is_initialized UninitializedThis = false
is_initialized (Uninitialized place) = false
is_initialized t = true

abbrev pub is_this : VarType → Bool
is_this UninitializedThis = true
is_this t = false

-- the types that a load, a store or a return moves
abbrev pub moves : Moved → VarType → Bool
moves (Numbers IntType) Integer = true
moves (Numbers LongType) LongInteger = true
moves References t = is_reference_type t
moves sort t = false

-- the words that it moves
abbrev pub moved_words : Moved → ℕ
moved_words (Numbers LongType) = 2
moved_words sort = 1

-- `t` where it isn't the uninitialised type `old`, and else `new` (4.10.1.9.new and invokespecial: substitute)
abbrev pub substituted : (old new t : VarType) → VarType
substituted (Uninitialized p) new (Uninitialized q) = if p == q then new else Uninitialized q
substituted UninitializedThis new UninitializedThis = new
substituted old new t = t

-- the stack holds what the `new` at this place made
abbrev pub holds_made : (place : ℕ) → List VarType → Bool
holds_made place [] = false
holds_made place (Uninitialized q ∷ ts) = if place == q then true else holds_made place ts
holds_made place (t ∷ ts) = holds_made place ts
