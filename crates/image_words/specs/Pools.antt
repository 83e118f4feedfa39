-- The two words of an entry of a class's pool: what it means to the instructions of the class that name it (JVM Specification SE 8, 4.4).
use Rattle.std.specs.Prelude.{ℕ, ◌+◌, ◌*◌, ◌/◌, ◌%◌, ◌^◌, Bool, ◌&&◌, ◌||◌, ◌==◌, if◌then◌else◌, List, [], ◌∷◌, length, is_some, unwrap_or, Option, Some}
use Rattle.std.specs.Option.{option_map, option_map_or}
use Rattle.std.specs.List.{filter, find, flat_map, range_with_len}
use Rattle.class_pool.specs.declared.entry.Entry.{Entry}
use Rattle.class_pool.specs.declared.entry.Entry.TheVariants as entries
use Rattle.class_pool.specs.Grammar.{entry_at, text_at}
use Rattle.class_pool.specs.declared.class.ClassFile.{ClassFile}
use Rattle.lists.specs.Lists.{onto, index_of}
use Rattle.bytecode_model.specs.Types.{Kind, OfReferences}
use Rattle.bytecode_model.specs.Program.{Operand, AMethod, type_number}
use Rattle.image_facts.specs.Words.{is_long_type}
use Rattle.image_facts.specs.Places.{Places, static_place, object_place}
use Rattle.image_facts.specs.Says.{bit_of, argument_words_of, field_place, invokespecial, invokestatic}
use Rattle.class_lookup.specs.Lookup.{Place, same_place}
use Rattle.program_tables.specs.Instructions.{Placed, instructions_of, signature_in, index_of_entry, named_in}
use Rattle.program_tables.specs.Kinds.{kind_of_entry}
use Rattle.program_tables.specs.Numbers.{static_fields, instance_fields, is_static_field, string_number}
use Rattle.program_tables.specs.Operands.{string_object, field_named, method_named, class_named, operand_in}
use Rattle.program_tables.specs.Resolved.{declared_at, resolved_method, resolved}
use Rattle.image_words.specs.Slots.{interface_number, slot_of}

abbrev pub no_words : List ℕ
no_words = 0 ∷ 0 ∷ []

-- ---- the instructions of a class

abbrev pub instructions_in : ClassFile → List Placed
instructions_in k = flat_map instructions_of k.methods

abbrev pub names_entry : ClassFile → (index : ℕ) → Placed → Bool
names_entry k index p = index_of_entry p.instr == index && is_some (named_in k p.instr)

-- those that name the entry
unfoldable pub naming : ClassFile → (index : ℕ) → List Placed
naming k index = filter (names_entry k index) (instructions_in k)

-- ---- constants and classes

abbrev pub string_words : List ClassFile → Places → (units : List ℕ) → List ℕ
string_words cs pl units = option_map_or (λ n. object_place (resolved cs) pl (resolved cs).first_objects (string_object n)) (string_number cs units) 0 ∷ 0 ∷ []

-- the place of a type that has a number, else 0
abbrev pub numbered_place : List ClassFile → Places → Option Kind → ℕ
numbered_place cs pl k = option_map_or pl.type (onto k (type_number (resolved cs))) 0

-- the type, and that of its arrays
abbrev pub class_words : List ClassFile → Places → Option Kind → List ℕ
class_words cs pl k = numbered_place cs pl k ∷ numbered_place cs pl (option_map OfReferences k) ∷ []

-- ---- fields

abbrev pub static_word : List ClassFile → Places → (field : Place) → ℕ
static_word cs pl f = option_map_or (static_place (resolved cs) pl) (index_of (same_place f) (static_fields cs)) 0

-- the word of the field in an object
abbrev pub instance_word : List ClassFile → (field : Place) → ℕ
instance_word cs f = option_map_or (field_place (resolved cs) f.0) (index_of (same_place f) (instance_fields cs f.0)) 0

-- the place, and whether it is of type long
abbrev pub field_words : List ClassFile → Places → (field : Place) → List ℕ
field_words cs pl f =
    (if is_static_field cs f then static_word cs pl f else instance_word cs f) ∷ option_map_or (λ d. bit_of (is_long_type d)) (declared_at cs f) 0 ∷ []

-- ---- methods

-- it runs without a selection
abbrev pub is_fixed_call : Placed → Bool
is_fixed_call p = p.instr.op == invokespecial || p.instr.op == invokestatic

abbrev pub operand_place : Places → Operand → ℕ
operand_place pl (AMethod named m) = pl.method m
operand_place pl o = 0

-- the method that invokespecial or invokestatic takes, where one of the class names the entry
abbrev pub taken_place : List ClassFile → Places → (class : ℕ) → ClassFile → (index : ℕ) → ℕ
taken_place cs pl c k index = option_map_or (λ p. operand_place pl (operand_in cs c k p.instr)) (find is_fixed_call (naming k index)) 0

-- the words of the arguments, above a number of at most 24 bits
abbrev pub call_word : List ClassFile → (number : Option ℕ) → (method : Place) → ℕ
call_word cs number m = option_map_or argument_words_of (resolved_method cs m) 0 * 2 ^ 24 + unwrap_or number 0

abbrev pub method_word : List ClassFile → (named : Option ℕ) → (method : Option Place) → ℕ
method_word cs named m = option_map_or (λ m. call_word cs (onto named (λ n. slot_of cs n m)) m) m 0

abbrev pub interface_word : List ClassFile → (method : Option Place) → ℕ
interface_word cs m = option_map_or (λ m. call_word cs (interface_number cs m) m) m 0

-- ---- entries

-- of an entry that an instruction names
abbrev pub words_of_entry : List ClassFile → Places → (class : ℕ) → ClassFile → (index : ℕ) → Option Entry → List ℕ
words_of_entry cs pl c k index (Some (entries.Integer n)) = n ∷ 0 ∷ []
words_of_entry cs pl c k index (Some (entries.Long n)) = n / 2 ^ 32 ∷ n % 2 ^ 32 ∷ []
words_of_entry cs pl c k index (Some (entries.Text units)) = string_words cs pl (text_at k.pool units)
words_of_entry cs pl c k index (Some (entries.Class name)) = class_words cs pl (kind_of_entry cs k.pool index)
words_of_entry cs pl c k index (Some (entries.Field owner member)) =
    option_map_or (field_words cs pl) (onto (signature_in k.pool member) (field_named cs k owner)) no_words
words_of_entry cs pl c k index (Some (entries.Method owner member)) =
    taken_place cs pl c k index ∷ method_word cs (class_named cs k owner) (onto (signature_in k.pool member) (method_named cs k owner)) ∷ []
words_of_entry cs pl c k index (Some (entries.InterfaceMethod owner member)) =
    taken_place cs pl c k index ∷ interface_word cs (onto (signature_in k.pool member) (method_named cs k owner)) ∷ []
words_of_entry cs pl c k index entry = no_words

-- both are 0 where no instruction of the class names the entry
abbrev pub entry_words : List ClassFile → Places → (class : ℕ) → ClassFile → (index : ℕ) → List ℕ
entry_words cs pl c k index = if length (naming k index) == 0 then no_words else words_of_entry cs pl c k index (entry_at k.pool index)

-- two words for each index, 0 among them
abbrev pub pool_image : List ClassFile → Places → (class : ℕ) → ClassFile → List ℕ
pool_image cs pl c k = flat_map (entry_words cs pl c k) (range_with_len 0 (1 + length k.pool))
