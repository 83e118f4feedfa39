-- A resolved program (JVM Specification SE 8, 5.4): methods with their code, what each instruction's pool entry means, types, and what the class
-- hierarchy says.
use Rattle.std.specs.Prelude.{ℕ, ℤ, Bool, false, ◌==◌, ◌||◌, List, Option, Some, None, Result, Ok, Err, slice_get}
use Rattle.opcodes.specs.declared.instruction.Instr.{Instr}
use Rattle.opcodes.specs.Instruction.{decoded}
use Rattle.bytecode_model.specs.declared.Value.{Value}
use Rattle.bytecode_model.specs.Lists.{onto, index_of}
use Rattle.bytecode_model.specs.Types.{Kind, OfClass, OfNumbers, OfReferences, Declared, same_kind}
use Rattle.bytecode_model.specs.State.{Object}

-- an entry of the exception table (4.7.3): the instructions from start up to end, the handler's place, and what it catches, none for any
pub record Handler : Type 0 where
  pub start : ℕ
  pub end : ℕ
  pub target : ℕ
  pub caught : Option Kind

-- the code of a method (4.7.3)
pub record Body : Type 0 where
  pub max_locals : ℕ
  pub max_stack : ℕ
  pub code : List ℕ
  pub handlers : List Handler

-- a method of the class owner, its parameters in order, `this` apart
pub record Method : Type 0 where
  pub owner : ℕ
  pub has_this : Bool
  pub is_init : Bool
  pub parameters : List Declared
  pub result : Option Declared
  pub body : Option Body

-- What the pool entry means that an instruction names (4.4). A member is named through a class; a field has an index among the instance fields of its owner.
pub data Operand : Type 0 where
  NoOperand : Operand
  AnInt : ℤ → Operand
  ALong : ℤ → Operand
  AString : (object : ℕ) → Operand
  AStatic : (field : ℕ) → Operand
  AField : (named owner index : ℕ) → Operand
  AMethod : (named method : ℕ) → Operand
  AType : Kind → Operand

-- the classes that the virtual machine itself knows have the first numbers
abbrev pub object_class : ℕ
object_class = 0

abbrev pub serializable_class : ℕ
serializable_class = 1

abbrev pub cloneable_class : ℕ
cloneable_class = 2

abbrev pub string_class : ℕ
string_class = 3

abbrev pub throwable_class : ℕ
throwable_class = 4

pub record Program : Type 0 where
  -- whether it comes of class files; a bare image is one static method of ints, without classes
  pub linked : Bool
  -- by number
  pub methods : List Method
  -- the method that is run
  pub boot : ℕ
  -- what the instruction at a place of a method names; at invokespecial, the method that is then run
  pub operand : (method pc : ℕ) → Operand
  -- whether that is a protected member of a superclass in another package
  pub guarded : (method pc : ℕ) → Bool
  -- what objects may be, by type number
  pub types : List Kind
  -- the first class is the second, or has it as a superclass or a superinterface
  pub extends : (class other : ℕ) → Bool
  -- the direct superclass
  pub superclass : ℕ → Option ℕ
  pub is_interface : ℕ → Bool
  -- neither an abstract class nor an interface: there are instances of it
  pub is_concrete : ℕ → Bool
  -- the instance fields of a class, those of its superclass first
  pub fields : ℕ → List Declared
  pub statics : List Declared
  -- the values with which the static fields begin
  pub first_statics : List Value
  -- the objects that are there at the start: one of each class that instructions raise, and the string literals
  pub first_objects : List Object
  -- the method that is selected for a resolved method where the receiver is of a class (6.5.invokevirtual, 6.5.invokeinterface)
  pub select : (receiver method : ℕ) → Option ℕ

-- the words that frames may take, and those of objects that may be made
pub record Limits : Type 0 where
  pub frames : ℕ
  pub heap : ℕ

abbrev pub body_of : Program → (method : ℕ) → Option Body
body_of P m = onto (slice_get P.methods m) (λ k. k.body)

abbrev pub as_instr : {E : Type 0} → Result Instr E → Option Instr
as_instr (Ok i) = Some i
as_instr (Err e) = None

-- the instruction at a place of a method
abbrev pub instr_at : Program → (method pc : ℕ) → Option Instr
instr_at P m pc = onto (body_of P m) (λ b. as_instr (decoded b.code pc))

-- the kind of an object
abbrev pub kind_of : Program → Object → Option Kind
kind_of P o = slice_get P.types o.kind

-- the number of a type
abbrev pub type_number : Program → Kind → Option ℕ
type_number P k = index_of (same_kind k) P.types

-- An object of the first kind is one of the second (6.5.checkcast): a class by the hierarchy; an array by its component, and as an Object, a
-- Cloneable and a Serializable.
abbrev pub is_of : Program → Kind → Kind → Bool
is_of P (OfClass c) (OfClass d) = P.extends c d
is_of P (OfNumbers a) (OfNumbers b) = a == b
is_of P (OfReferences k) (OfReferences l) = is_of P k l
is_of P (OfNumbers a) (OfClass d) = d == object_class || d == serializable_class || d == cloneable_class
is_of P (OfReferences k) (OfClass d) = d == object_class || d == serializable_class || d == cloneable_class
is_of P k l = false
