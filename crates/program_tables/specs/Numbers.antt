-- The numbers of members, types and strings. Classes are numbered as they stand; everything else by class, and within a class as it stands there.
use Rattle.std.specs.Prelude.{ℕ, ◌+◌, Bool, false, not, ◌==◌, if◌then◌else◌, List, [], ◌∷◌, ◌++◌, length, map, reverse, Option, Some, None, slice_get}
use Rattle.std.specs.Option.{option_map_or}
use Rattle.std.specs.List.{range_with_len, filter, flat_map, enumerate_from}
use Rattle.class_pool.specs.declared.entry.Entry.{Entry}
use Rattle.class_pool.specs.declared.entry.Entry.TheVariants as entries
use Rattle.class_pool.specs.Grammar.{entry_at, text_at}
use Rattle.class_pool.specs.Utf8.{utf8_bytes}
use Rattle.class_pool.specs.declared.class.Member.{Member}
use Rattle.class_pool.specs.declared.class.ClassFile.{ClassFile}
use Rattle.bytecode_model.specs.Lists.{onto, index_of}
use Rattle.bytecode_model.specs.Types.{Kind, OfClass, OfNumbers, OfReferences, same_kind}
use Rattle.class_pool.specs.Found.{constant_value_of}
use Rattle.class_lookup.specs.Parts.{same_text, name_of, has_code, is_static}
use Rattle.class_lookup.specs.Hierarchy.{superclasses}
use Rattle.class_lookup.specs.Lookup.{Place, field_at, method_at, same_place}
use Rattle.class_lookup.specs.Selection.{is_method_with}
use Rattle.program_tables.specs.Lists.{distinct}
use Rattle.program_tables.specs.Instructions.{Placed, instructions_of, Named, Constant, Class, named_in}
use Rattle.program_tables.specs.Kinds.{kind_of_entry}

-- ---- members

-- the members of all classes, by class and then as they stand there
abbrev pub places_of : (ClassFile → List Member) → List ClassFile → List Place
places_of members cs = flat_map (λ e. map (λ i. (e.0, i)) (range_with_len 0 (length (members e.1)))) (enumerate_from 0 cs)

abbrev pub is_coded : List ClassFile → Place → Bool
is_coded cs m = is_method_with has_code cs m

-- the methods by number: those with code, then those without
unfoldable pub methods_by_number : List ClassFile → List Place
methods_by_number cs =
    let all = places_of (λ c. c.methods) cs in
    filter (is_coded cs) all ++ filter (λ m. not (is_coded cs m)) all

abbrev pub method_number : List ClassFile → Place → Option ℕ
method_number cs m = index_of (same_place m) (methods_by_number cs)

-- the fields by number
unfoldable pub fields_by_number : List ClassFile → List Place
fields_by_number cs = places_of (λ c. c.fields) cs

abbrev pub field_number : List ClassFile → Place → Option ℕ
field_number cs f = index_of (same_place f) (fields_by_number cs)

-- there is such a field, and it passes the test
abbrev pub is_field_with : (Member → Bool) → List ClassFile → Place → Bool
is_field_with test cs f = option_map_or test (field_at cs f) false

abbrev pub is_static_field : List ClassFile → Place → Bool
is_static_field cs f = is_field_with is_static cs f

abbrev pub is_instance_field : List ClassFile → Place → Bool
is_instance_field cs f = is_field_with (λ k. not (is_static k)) cs f

-- the static fields, in the order of their numbers
abbrev pub static_fields : List ClassFile → List Place
static_fields cs = filter (is_static_field cs) (fields_by_number cs)

abbrev pub static_number : List ClassFile → Place → Option ℕ
static_number cs f = index_of (same_place f) (static_fields cs)

-- the instance fields that the class declares
abbrev pub own_instance_fields : List ClassFile → (class : ℕ) → List Place
own_instance_fields cs c = filter (is_instance_field cs) (option_map_or (λ k. map (λ i. (c, i)) (range_with_len 0 (length k.fields))) (slice_get cs c) [])

-- the instance fields of an object of the class: those of its superclass first
abbrev pub instance_fields : List ClassFile → (class : ℕ) → List Place
instance_fields cs c = flat_map (own_instance_fields cs) (reverse (superclasses cs c))

-- the index of an instance field among those of its class
abbrev pub instance_number : List ClassFile → Place → Option ℕ
instance_number cs f = index_of (same_place f) (instance_fields cs f.0)

-- a method's text: its class's name, a dot, its name and its descriptor, as bytes
abbrev pub member_text : ClassFile → Member → List ℕ
member_text c m = utf8_bytes (name_of c) ++ 46 ∷ (utf8_bytes (text_at c.pool m.name) ++ utf8_bytes (text_at c.pool m.descriptor))

abbrev pub method_text : List ClassFile → Place → List ℕ
method_text cs m = option_map_or (λ c. option_map_or (member_text c) (method_at cs m) []) (slice_get cs m.0) []

-- ---- types

-- the types of arrays of references within a type, a component before its array
abbrev pub reference_arrays : Kind → List Kind
reference_arrays (OfReferences k) = reference_arrays k ++ OfReferences k ∷ []
reference_arrays k = []

abbrev pub used_by : (op : ℕ) → Option Kind → List Kind
used_by op None = []
used_by op (Some k) = if op == 189 then reference_arrays (OfReferences k) else if op == 192 then reference_arrays k else if op == 193 then reference_arrays k
    else []

abbrev pub class_kind : List ClassFile → ClassFile → Option Named → Option Kind
class_kind cs c (Some (Class index)) = kind_of_entry cs c.pool index
class_kind cs c named = None

-- anewarray mentions the type of the array that it makes; checkcast and instanceof mention an array type
abbrev pub arrays_mentioned_by : List ClassFile → ClassFile → Placed → List Kind
arrays_mentioned_by cs c p = used_by p.instr.op (class_kind cs c (named_in c p.instr))

abbrev pub arrays_mentioned_in : List ClassFile → ClassFile → List Kind
arrays_mentioned_in cs c = flat_map (λ m. flat_map (arrays_mentioned_by cs c) (instructions_of m)) c.methods

-- the arrays of numbers by their array type codes, then so many classes
abbrev pub first_types : (classes : ℕ) → List Kind
first_types n = map OfNumbers (range_with_len 4 8) ++ map OfClass (range_with_len 0 n)

-- the arrays of numbers, the classes, then the arrays of references at their first mention
unfoldable pub types_of : List ClassFile → List Kind
types_of cs =
    map OfNumbers (range_with_len 4 8) ++ (map OfClass (range_with_len 0 (length cs)) ++ distinct same_kind (flat_map (arrays_mentioned_in cs) cs))

-- the type number of a class, behind the eight arrays of numbers
abbrev pub class_type_number : (class : ℕ) → ℕ
class_type_number c = 8 + c

-- ---- strings

abbrev pub constant_entry : ClassFile → Member → Option Entry
constant_entry c f = onto (constant_value_of f) (entry_at c.pool)

-- the units of a String entry
abbrev pub string_in : List Entry → Option Entry → List (List ℕ)
string_in pool (Some (entries.Text units)) = text_at pool units ∷ []
string_in pool entry = []

abbrev pub constant_named : Option Named → Option Entry
constant_named (Some (Constant entry)) = Some entry
constant_named named = None

-- a class's string literals: its fields' constants, then those that instructions load
abbrev pub strings_in : ClassFile → List (List ℕ)
strings_in c =
    flat_map (λ f. string_in c.pool (constant_entry c f)) c.fields
    ++ flat_map (λ m. flat_map (λ p. string_in c.pool (constant_named (named_in c p.instr))) (instructions_of m)) c.methods

-- the strings by number, each at its first mention
unfoldable pub strings_of : List ClassFile → List (List ℕ)
strings_of cs = distinct same_text (flat_map strings_in cs)

abbrev pub string_number : List ClassFile → List ℕ → Option ℕ
string_number cs units = index_of (same_text units) (strings_of cs)
