-- What the words of an image say of a program.
use Rattle.std.specs.Prelude.{◌≡◌, ◌⊎◌, ℕ, ◌+◌, ◌*◌, ◌/◌, ◌%◌, ◌^◌, ◌<◌, ◌≤◌, pos, Bool, true, false, List, [], ◌∷◌, ◌++◌, length, replicate, take, sum_by, All}
use Rattle.std.specs.Prelude.{slice_get, slice_index, Ok, Option, Some, None, IsSome, IfSome, IsSomeAnd, if◌then◌else◌}
use Rattle.std.specs.List.{flat_map}
use Rattle.std.specs.Int.{div_ceil}
use Rattle.base.specs.Packed.{words_for, words_of_bytes}
use Rattle.opcodes.specs.declared.instruction.Instr.{Instr}
use Rattle.opcodes.specs.Instruction.{decoded}
use Rattle.opcodes.specs.Start.{IsStart}
use Rattle.bytecode_model.specs.Types.{Kind, OfClass, OfNumbers, OfReferences, t_boolean}
use Rattle.bytecode_model.specs.Program.{Program, Method, Body, Handler, Operand, NoOperand, AnInt, ALong, AString, AStatic, AField, AMethod, AType, body_of}
use Rattle.bytecode_model.specs.Program.{instr_at, type_number, is_of}
use Rattle.bytecode_model.specs.Effects.{Fault, fault_object, component_of, has_class, selected}
use Rattle.bytecode_model.specs.Steps.{taken_types}
use Rattle.bytecode_model.specs.WellFormed.{AreObjects}
use Rattle.image_facts.specs.Words.{int_word, high_word, low_word, is_long_type, declared_words}
use Rattle.image_facts.specs.Places.{Places, AreFixed, static_place, object_place, image_words, pool_of}

abbrev pub bit_of : Bool → ℕ
bit_of b = if b then 1 else 0

-- ---- methods

-- what a code is (4.7.3): some bytes, fewer than 65,536
pub record IsCode (code : List ℕ) : Type 0 where
  pub some : 0 < length code
  pub short : length code < 2 ^ 16
  pub bytes : (k : ℕ) → slice_index code k < 2 ^ 8

-- the words that a method takes as arguments, the receiver among them
abbrev pub argument_words_of : Method → ℕ
argument_words_of k = sum_by declared_words (taken_types k)

-- the number of a type and one, or 0 for none
abbrev pub counted_type : Program → Option Kind → ℕ
counted_type P None = 0
counted_type P (Some k) = elim (type_number P k) [ None ↦ 0 | Some t ↦ t + 1 ]

-- an entry of the exception table: its range, its handler, and the type that it catches
abbrev pub handler_words : Program → Handler → List ℕ
handler_words P h = (h.start * 2 ^ 16 + h.end) ∷ h.target ∷ counted_type P h.caught ∷ []

-- the record of a method: its limits, the words of its arguments and of its code, the pool of its class, its exception table, and its code, four bytes a word
abbrev pub method_words : Program → Places → Method → Body → List ℕ
method_words P pl k b =
    (b.max_locals * 2 ^ 16 + b.max_stack) ∷ (argument_words_of k * 2 ^ 16 + words_for (length b.code)) ∷ pl.pool k.owner ∷ length b.handlers
    ∷ (flat_map (handler_words P) b.handlers ++ words_of_bytes b.code)

-- no instruction goes across the place
abbrev pub IsBetween : (code : List ℕ) → (place : ℕ) → Type 0
IsBetween code place = (pc : ℕ) (i : Instr) → IsStart code pc → decoded code pc ≡ Ok i → (place ≤ pc) ⊎ (pc + i.length ≤ place)

-- The ends of the range fit half a word each, and lie between instructions or at the code's end (4.7.3). The type has a number.
pub record IsEntry (P : Program) (code : List ℕ) (h : Handler) : Type 0 where
  pub start : h.start < 2 ^ 16
  pub end : h.end < 2 ^ 16
  pub begins : IsBetween code h.start
  pub ends : IsBetween code h.end
  pub caught : IfSome h.caught (λ k. IsSome (type_number P k))

pub record SaysMethod (P : Program) (pl : Places) (m : ℕ) (k : Method) (b : Body) : Type 0 where
  pub words : AreFixed P pl (pl.method m) (method_words P pl k b)
  pub nonzero : 0 < pl.method m
  pub max_locals : b.max_locals < 2 ^ 16
  pub max_stack : b.max_stack < 2 ^ 16
  pub entries : All (IsEntry P b.code) b.handlers

-- ---- types

-- the words of an instance of a class; an interface has none
abbrev pub instance_words : Program → Kind → ℕ
instance_words P (OfClass c) = if P.is_interface c then 0 else 1 + sum_by declared_words (P.fields c)
instance_words P k = 0

-- The record of a type: its number, the words of an instance, the type of an array's elements, its two tables, and bit by bit, 32 in a word, whether
-- the type of each number is this one or a supertype. No instance has so many words that the place behind it would be none.
pub record SaysType (P : Program) (pl : Places) (t : ℕ) (k : Kind) : Type 0 where
  pub supertypes : List ℕ
  pub words : AreFixed P pl (pl.type t) (t ∷ instance_words P k ∷ counted_type P (component_of (Some k)) ∷ pl.method_table t ∷ pl.interface_table t
      ∷ supertypes)
  pub count : length supertypes ≡ div_ceil (length P.types) 32
  pub size : instance_words P k < 2 ^ 31
  pub bits : (u : ℕ) → IfSome (slice_get P.types u) (λ l. slice_index supertypes (u / 32) / 2 ^ (u % 32) % 2 ≡ bit_of (is_of P k l))
  pub component : IfSome (component_of (Some k)) (λ l. IsSome (type_number P l))

-- ---- what instructions name (4.4)

abbrev pub invokevirtual : ℕ
invokevirtual = 182

abbrev pub invokespecial : ℕ
invokespecial = 183

abbrev pub invokestatic : ℕ
invokestatic = 184

abbrev pub invokeinterface : ℕ
invokeinterface = 185

-- the word of a field in the objects of a class
abbrev pub field_place : Program → (class index : ℕ) → ℕ
field_place P c i = 1 + sum_by declared_words (take i (P.fields c))

-- a table has at this place the method that runs where u is selected
abbrev pub FindsMethod : Program → Places → (place u : ℕ) → Type 0
FindsMethod P pl place u = IsSome (body_of P u) → AreFixed P pl place (pl.method u ∷ [])

-- In the tables of the named class and of those below it, this slot has the method that is selected for m.
abbrev pub IsSlot : Program → Places → (named m slot : ℕ) → Type 0
IsSlot P pl named m slot =
    (t c u : ℕ) → slice_get P.types t ≡ Some (OfClass c) → P.extends c named ≡ true → P.select c m ≡ Some u → FindsMethod P pl (pl.method_table t + slot) u

-- In the table of a type that implements the interface, the place of this number has the method that is selected for m, and in any other 0.
pub record IsInterfaceNumber (P : Program) (pl : Places) (m interface number : ℕ) : Type 0 where
  pub implements : (t u : ℕ) (k : Kind) → slice_get P.types t ≡ Some k → has_class P (Some k) interface ≡ true → selected P (Some k) m ≡ Some u
      → FindsMethod P pl (pl.interface_table t + number) u
  pub other : (t : ℕ) (k : Kind) → slice_get P.types t ≡ Some k → has_class P (Some k) interface ≡ false
      → AreFixed P pl (pl.interface_table t + number) (0 ∷ [])

-- The two words of a method: where it runs without a selection, its place; else the words of its arguments, and a slot or an interface method's number.
-- What invokespecial names isn't abstract (6.5.invokespecial).
pub record MeansMethod (P : Program) (pl : Places) (op named m : ℕ) (k : Method) (first second : ℕ) : Type 0 where
  pub itself : (op ≡ invokespecial) ⊎ (op ≡ invokestatic) → IsSome k.body → first ≡ pl.method m
  pub code : op ≡ invokespecial → IsSome k.body
  pub virtual : op ≡ invokevirtual → (second / 2 ^ 24 ≡ argument_words_of k) × IsSlot P pl named m (second % 2 ^ 24)
  pub interface : op ≡ invokeinterface → (second / 2 ^ 24 ≡ argument_words_of k) × IsInterfaceNumber P pl m k.owner (second % 2 ^ 24)

-- a field lies at the same word in the objects of each class that has it
pub record MeansField (P : Program) (owner index first : ℕ) : Type 0 where
  pub inherited : (c : ℕ) → P.extends c owner ≡ true → slice_get (P.fields c) index ≡ slice_get (P.fields owner) index
  pub place : (c : ℕ) → P.extends c owner ≡ true → first ≡ field_place P c index

-- what the two words of a pool entry mean that an instruction of this opcode names; of a field's, the second is 1 for type long
abbrev pub Means : Program → Places → (op : ℕ) → Operand → (first second : ℕ) → Type 0
Means P pl op NoOperand first second = Unit {0}
Means P pl op (AnInt n) first second = first ≡ int_word n
Means P pl op (ALong n) first second = (first ≡ high_word n) × (second ≡ low_word n)
Means P pl op (AString p) first second = (first ≡ object_place P pl P.first_objects p) × (p < length P.first_objects)
Means P pl op (AStatic f) first second = (first ≡ static_place P pl f) × IsSomeAnd (slice_get P.statics f) (λ d. second ≡ bit_of (is_long_type d))
Means P pl op (AField named owner i) first second =
    MeansField P owner i first × IsSomeAnd (slice_get (P.fields owner) i) (λ d. second ≡ bit_of (is_long_type d))
Means P pl op (AMethod named m) first second = IsSomeAnd (slice_get P.methods m) (λ k. MeansMethod P pl op named m k first second)
Means P pl op (AType k) first second =
    IsSomeAnd (type_number P k) (λ t. first ≡ pl.type t) × IfSome (type_number P (OfReferences k)) (λ t. second ≡ pl.type t)

pub record SaysEntry (P : Program) (pl : Places) (op place : ℕ) (o : Operand) : Type 0 where
  pub first : ℕ
  pub second : ℕ
  pub words : AreFixed P pl place (first ∷ second ∷ [])
  pub means : Means P pl op o first second

abbrev pub SaysOperand : Program → Places → (op place : ℕ) → Operand → Type 0
SaysOperand P pl op place NoOperand = Unit {0}
SaysOperand P pl op place o = SaysEntry P pl op place o

-- ---- all of it

-- the first words: the places of boot's method and of its pool, the number of types, the two lists of places, and the number of all words
abbrev pub header_words : Program → Places → List ℕ
header_words P pl =
    0 ∷ pl.method P.boot ∷ pool_of P pl P.boot ∷ length P.types ∷ pl.raise_list ∷ pl.arrays ∷ image_words P pl ∷ replicate 9 0

-- what the image says of a program that comes of class files; the entries of a pool lie two words apart
pub record SaysLinked (P : Program) (pl : Places) : Type 0 where
  pub header : AreFixed P pl 0 (header_words P pl)
  pub arrays : (i t : ℕ) → i < 8 → type_number P (OfNumbers (t_boolean + i)) ≡ Some t → AreFixed P pl (pl.arrays + i) (pl.type t ∷ [])
  pub raise_list : (f : Fault) → AreFixed P pl (pl.raise_list + fault_object f) (object_place P pl P.first_objects (fault_object f) ∷ [])
  pub raise_objects : 9 ≤ length P.first_objects
  pub methods : (m : ℕ) (k : Method) (b : Body) → slice_get P.methods m ≡ Some k → k.body ≡ Some b → SaysMethod P pl m k b
  pub types : (t : ℕ) → IfSome (slice_get P.types t) (SaysType P pl t)
  -- a type's number and one fit a word
  pub few_types : length P.types < 2 ^ 31
  -- the types of classes stand behind those of arrays of numbers, in the order of the classes
  pub class_numbers : (t c : ℕ) → slice_get P.types t ≡ Some (OfClass c) → t ≡ 8 + c
  -- there are instances of no interface
  pub concrete : (c : ℕ) → P.is_concrete c ≡ true → P.is_interface c ≡ false
  pub operands : (m pc index : ℕ) (k : Method) (b : Body) (i : Instr) → slice_get P.methods m ≡ Some k → k.body ≡ Some b → IsStart b.code pc
      → instr_at P m pc ≡ Some i → i.first ≡ pos index → SaysOperand P pl i.op (pl.pool k.owner + 2 * index) (P.operand m pc)

-- a bare image has no words, and its instructions name nothing
abbrev pub IsOfBareImage : Program → Type 0
IsOfBareImage P = (m pc : ℕ) → P.operand m pc ≡ NoOperand

abbrev pub SaysAll : (linked : Bool) → Program → Places → Type 0
SaysAll true P pl = SaysLinked P pl
SaysAll false P pl = IsOfBareImage P

-- With its parts at these places, the image says what the program is.
pub record Says (P : Program) (pl : Places) : Type 0 where
  pub codes : (m : ℕ) → IfSome (body_of P m) (λ b. IsCode b.code)
  pub apart : (m n : ℕ) → IsSome (body_of P m) → IsSome (body_of P n) → pl.method m ≡ pl.method n → m ≡ n
  -- the objects that are there at the start are well formed
  pub first : AreObjects P (length P.first_objects) P.first_objects
  pub all : SaysAll P.linked P pl
