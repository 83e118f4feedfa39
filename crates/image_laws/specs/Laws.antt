-- What the words of an image say: JVM Specification SE 8, 5.4.5, 6.5.invokevirtual and 6.5.invokeinterface, and what each of its parts means.
use Rattle.std.specs.Prelude.{◌≡◌, ℕ, ◌+◌, ◌*◌, ◌/◌, ◌%◌, ◌^◌, ◌<◌, ◌≤◌, length, true, false, not, None, List, ◌++◌, Some, pos, IsTrue, IfSome, IsSome, All}
use Rattle.std.specs.Prelude.{slice_get, slice_index}
use Rattle.std.specs.Option.{IsSomeAnd}
use Rattle.class_pool.specs.declared.class.ClassFile.{ClassFile}
use Rattle.lists.specs.Lists.{onto, index_of}
use Rattle.class_lookup.specs.Parts.{Signature, is_init}
use Rattle.class_lookup.specs.Hierarchy.{is_interface}
use Rattle.class_lookup.specs.Lookup.{Place, same_place, find_method}
use Rattle.std.specs.Int.{w32, w64, cast_signed}
use Rattle.class_pool.specs.Grammar.{entry_at}
use Rattle.image_facts.specs.Words.{int_word, high_word, low_word}
use Rattle.program_tables.specs.Instructions.{Placed, index_of_entry, named_in}
use Rattle.bytecode_model.specs.Types.{Kind, OfReferences, Declared}
use Rattle.opcodes.specs.declared.instruction.Instr.{Instr}
use Rattle.opcodes.specs.Start.{IsStart}
use Rattle.bytecode_model.specs.WellFormed.{AreObjects}
use Rattle.bytecode_model.specs.Program.{Program, Method, Body, body_of, instr_at, type_number, is_of}
use Rattle.bytecode_model.specs.Effects.{component_of}
use Rattle.image_facts.specs.Places.{Places, static_place, object_place}
use Rattle.image_facts.specs.Says.{Says, SaysOperand, MeansField, bit_of, argument_words_of, instance_words, IsCode, IsBetween, SaysMethod, IsSlot}
use Rattle.image_facts.specs.Says.{IsInterfaceNumber}
use Rattle.class_lookup.specs.Selection.{is_virtual, is_instance, select}
use Rattle.class_lookup.specs.Laws.{IsUpwardOf}
use Rattle.program_tables.specs.Resolving.{IsResolved}
use Rattle.program_tables.specs.Numbers.{method_number, types_of, string_number, static_fields, instance_fields}
use Rattle.program_tables.specs.Resolved.{resolved}
use Rattle.image_words.specs.Slots.{slots, table_slots, slot_of, interface_number}
use Rattle.image_words.specs.Regions.{supertype_words, image_words_of, places_of}
use Rattle.image_words.specs.Layout.{outline_of}
use Rattle.image_words.specs.Limits.{most_types, most_words, IsWithinLimits}
use Rattle.image_words.specs.Pools.{static_word, instance_word, instructions_in, numbered_place, words_of_entry, entry_words, method_word, interface_word}
use Rattle.program_tables.specs.Operands.{string_object, class_named, method_named}
use Rattle.program_tables.specs.Unresolved.{why_method}

-- the slots of a class begin with those of its superclasses
abbrev pub SlotsAreInherited : Type 0
SlotsAreInherited = (cs : List ClassFile) → IsResolved cs → (c d : ℕ) → IsUpwardOf cs c d → (more : List Place) × (slots cs c ≡ slots cs d ++ more)

-- a method named through a class that invokevirtual may call
pub record IsCallable (cs : List ClassFile) (named : ℕ) (s : Signature) (m : Place) : Type 0 where
  pub class : is_interface cs named ≡ false
  pub found : find_method cs named s ≡ Some m
  pub virtual : IsTrue (is_virtual cs m)
  pub plain : IsTrue (not (is_init s))

-- In the tables of the named class and of those below it, the slot is made for a method for which what is selected is what is selected for m.
abbrev pub SlotSelects : List ClassFile → (named slot : ℕ) → (m : Place) → Type 0
SlotSelects cs named slot m =
    (c : ℕ) → is_interface cs c ≡ false → IsUpwardOf cs c named → IsSomeAnd (slice_get (table_slots cs c) slot) (λ a. select cs c a ≡ select cs c m)

-- Each method that is called by a selection has a slot in the named class: the one that is made for it; for a method of an interface, that of its
-- name and descriptor.
abbrev pub CallsHaveSlots : Type 0
CallsHaveSlots = (cs : List ClassFile) → IsResolved cs → (named : ℕ) (s : Signature) (m : Place) → IsCallable cs named s m
    → IsSomeAnd (slot_of cs named m) (λ slot. SlotSelects cs named slot m)

-- ---- the same over the words of the image, by the numbers of methods

-- In the tables of the named class and of those below it, the slot has the place of the method that is selected.
abbrev pub SlotsAreSaid : Type 0
SlotsAreSaid = (cs : List ClassFile) → IsResolved cs → (named : ℕ) (s : Signature) (m : Place) (slot n : ℕ) → IsCallable cs named s m
    → slot_of cs named m ≡ Some slot → method_number cs m ≡ Some n
    → IsSlot (resolved cs) (places_of cs) named n slot

-- In the table of a class that implements the interface, the method's number has the place of the method that is selected, and in any other 0.
abbrev pub InterfaceNumbersAreSaid : Type 0
InterfaceNumbersAreSaid = (cs : List ClassFile) → IsResolved cs → (m : Place) (number n : ℕ) → IsTrue (is_instance cs m) → interface_number cs m ≡ Some number
    → method_number cs m ≡ Some n
    → IsInterfaceNumber (resolved cs) (places_of cs) n m.0 number

-- ---- methods

abbrev pub CodesAreSaid : Type 0
CodesAreSaid = (cs : List ClassFile) → IsResolved cs → (m : ℕ) → IfSome (body_of (resolved cs) m) (λ b. IsCode b.code)

-- what the exception tables catch has a number, as each class has; typing sees that it is a Throwable, and so no array (4.10.1)
abbrev pub CatchesAreNumbered : Program → Type 0
CatchesAreNumbered P =
    (m : ℕ) (k : Method) (b : Body) → slice_get P.methods m ≡ Some k → k.body ≡ Some b → All (λ h. IfSome h.caught (λ c. IsSome (type_number P c))) b.handlers

-- the ranges of the exception tables begin and end between instructions; the verifier sees that they are in their form (4.7.3)
abbrev pub TablesAreAtStarts : Program → Type 0
TablesAreAtStarts P =
    (m : ℕ) (k : Method) (b : Body) → slice_get P.methods m ≡ Some k → k.body ≡ Some b → All (λ h. IsBetween b.code h.start × IsBetween b.code h.end) b.handlers

abbrev pub MethodsAreSaid : Type 0
MethodsAreSaid = (cs : List ClassFile) → IsResolved cs → CatchesAreNumbered (resolved cs) → TablesAreAtStarts (resolved cs) → (m : ℕ) (k : Method) (b : Body)
    → slice_get (resolved cs).methods m ≡ Some k → k.body ≡ Some b
    → SaysMethod (resolved cs) (places_of cs) m k b

-- no two methods with code lie at one place
abbrev pub MethodsAreApart : Type 0
MethodsAreApart = (cs : List ClassFile) (m n : ℕ) (k l : Method) (b c : Body) → slice_get (resolved cs).methods m ≡ Some k → k.body ≡ Some b
    → slice_get (resolved cs).methods n ≡ Some l → l.body ≡ Some c
    → (places_of cs).method m ≡ (places_of cs).method n → m ≡ n

-- bit by bit, 32 in a word, the words of a type's record say which types are it or its supertypes
abbrev pub SupertypesAreSaid : Type 0
SupertypesAreSaid = (cs : List ClassFile) (k : Kind) (u : ℕ)
    → IfSome (slice_get (types_of cs) u) (λ l. slice_index (supertype_words cs k) (u / 32) / 2 ^ (u % 32) % 2 ≡ bit_of (is_of (resolved cs) k l))

-- ---- calls by a selection

-- as few words as an image may have
abbrev pub IsSmall : List ClassFile → Type 0
IsSmall cs = length (image_words_of cs) ≤ most_words

-- What a call by the name and descriptor s through the Class entry owner of a class's pool means: a method of the program, named through a class.
pub record IsCalled (cs : List ClassFile) (k : ClassFile) (owner : ℕ) (s : Signature) (named n : ℕ) (m : Method) : Type 0 where
  pub class : class_named cs k owner ≡ Some named
  pub number : onto (method_named cs k owner s) (method_number cs) ≡ Some n
  pub method : slice_get (resolved cs).methods n ≡ Some m

-- The second word of a Methodref that an invokevirtual (182) names has the words of the arguments, and the method's slot.
abbrev pub VirtualCallsAreSaid : Type 0
VirtualCallsAreSaid = (cs : List ClassFile) → IsResolved cs → IsSmall cs → (c : ℕ) (k : ClassFile) (owner : ℕ) (s : Signature) → slice_get cs c ≡ Some k
    → why_method cs c k false 182 owner s ≡ None
    → let word = method_word cs (class_named cs k owner) (method_named cs k owner s) in
    (named : ℕ) × (n : ℕ) × (m : Method) × IsCalled cs k owner s named n m × (word / 2 ^ 24 ≡ argument_words_of m)
    × IsSlot (resolved cs) (places_of cs) named n (word % 2 ^ 24)

-- That of an InterfaceMethodref that an invokeinterface (185) names has the words of the arguments, and the method's number among those of interfaces.
abbrev pub InterfaceCallsAreSaid : Type 0
InterfaceCallsAreSaid = (cs : List ClassFile) → IsResolved cs → IsSmall cs → (c : ℕ) (k : ClassFile) (owner : ℕ) (s : Signature) → slice_get cs c ≡ Some k
    → why_method cs c k true 185 owner s ≡ None
    → let word = interface_word cs (method_named cs k owner s) in
    (named : ℕ) × (n : ℕ) × (m : Method) × IsCalled cs k owner s named n m × (word / 2 ^ 24 ≡ argument_words_of m)
    × IsInterfaceNumber (resolved cs) (places_of cs) n m.owner (word % 2 ^ 24)

-- the type of the components of an array of references has a number
abbrev pub ComponentsAreNumbered : Type 0
ComponentsAreNumbered = (cs : List ClassFile) (t : ℕ) (k : Kind) → slice_get (types_of cs) t ≡ Some k
    → IfSome (component_of (Some k)) (λ l. IsSome (type_number (resolved cs) l))

-- ---- what entries mean

-- an entry that an instruction of the class names has the words of what it means
abbrev pub EntriesAreNamed : Type 0
EntriesAreNamed = (cs : List ClassFile) (pl : Places) (c : ℕ) (k : ClassFile) (i : ℕ) (p : Placed) → slice_get (instructions_in k) i ≡ Some p
    → IsSome (named_in k p.instr)
    → entry_words cs pl c k (index_of_entry p.instr) ≡ words_of_entry cs pl c k (index_of_entry p.instr) (entry_at k.pool (index_of_entry p.instr))

-- the bits of an int and of a long are those of the number
pub record IntsAreSaid : Type 0 where
  pub int : (n : ℕ) → n < 2 ^ 32 → n ≡ int_word (cast_signed w32 n)
  pub high : (n : ℕ) → n < 2 ^ 64 → n / 2 ^ 32 ≡ high_word (cast_signed w64 n)
  pub low : (n : ℕ) → n < 2 ^ 64 → n % 2 ^ 32 ≡ low_word (cast_signed w64 n)

-- a string is one of the first objects, and the word has its place
abbrev pub StringsAreSaid : Type 0
StringsAreSaid = (cs : List ClassFile) (units : List ℕ) (n : ℕ) → string_number cs units ≡ Some n
    → (object_place (resolved cs) (outline_of cs) (resolved cs).first_objects (string_object n) ≡ object_place (resolved cs) (places_of cs)
    (resolved cs).first_objects (string_object n))
    × (string_object n < length (resolved cs).first_objects)

-- the words of a class have the places of its type and of that of its arrays, where this has a number
abbrev pub ClassesAreSaid : Type 0
ClassesAreSaid = (cs : List ClassFile) (k : Kind) → IsSome (type_number (resolved cs) k)
    → IsSomeAnd (type_number (resolved cs) k) (λ t. numbered_place cs (outline_of cs) (Some k) ≡ (places_of cs).type t)
    × IfSome (type_number (resolved cs) (OfReferences k)) (λ t. numbered_place cs (outline_of cs) (Some (OfReferences k)) ≡ (places_of cs).type t)

-- the word of an instance field lies at the same place in the objects of each class that has it
abbrev pub InstanceFieldsAreSaid : Type 0
InstanceFieldsAreSaid = (cs : List ClassFile) → IsResolved cs → (f : Place) (i : ℕ) (d : Declared) → index_of (same_place f) (instance_fields cs f.0) ≡ Some i
    → slice_get ((resolved cs).fields f.0) i ≡ Some d
    → MeansField (resolved cs) f.0 i (instance_word cs f)

abbrev pub StaticFieldsAreSaid : Type 0
StaticFieldsAreSaid = (cs : List ClassFile) (f : Place) (n : ℕ) → index_of (same_place f) (static_fields cs) ≡ Some n
    → static_word cs (outline_of cs) f ≡ static_place (resolved cs) (places_of cs) n

-- ---- all that an image says

-- what is named by instructions: the words of the pool's entry mean it
abbrev pub OperandsAreSaid : Program → Places → Type 0
OperandsAreSaid P pl =
    (m pc index : ℕ) (k : Method) (b : Body) (i : Instr) → slice_get P.methods m ≡ Some k → k.body ≡ Some b → IsStart b.code pc → instr_at P m pc ≡ Some i
    → i.first ≡ pos index
    → SaysOperand P pl i.op (pl.pool k.owner + 2 * index) (P.operand m pc)

abbrev pub OperandsLaw : Type 0
OperandsLaw = (cs : List ClassFile) → IsResolved cs → IsSmall cs → OperandsAreSaid (resolved cs) (places_of cs)

-- the objects that are there at the start are well formed
abbrev pub FirstObjectsLaw : Type 0
FirstObjectsLaw = (cs : List ClassFile) → IsResolved cs → AreObjects (resolved cs) (length (resolved cs).first_objects) (resolved cs).first_objects

-- an instance takes fewer words than an array may have elements
abbrev pub InstancesAreSmall : Type 0
InstancesAreSmall = (cs : List ClassFile) → IsResolved cs → length (types_of cs) ≤ most_types → (k : Kind) → instance_words (resolved cs) k < 2 ^ 31

-- The image of resolved classes within the limits says the program, where what its exception tables catch has a number and their ranges are in their form.
abbrev pub ImagesSayPrograms : Type 0
ImagesSayPrograms = (cs : List ClassFile) → IsResolved cs → IsWithinLimits cs → CatchesAreNumbered (resolved cs) → TablesAreAtStarts (resolved cs)
    → Says (resolved cs) (places_of cs)
