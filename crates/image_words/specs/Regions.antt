-- The words of an image: ten regions, one behind another.
use Rattle.std.specs.Prelude.{ℕ, ◌+◌, ◌*◌, Bool, if◌then◌else◌, List, [], ◌∷◌, ◌++◌, length, map, take, drop, replicate, Option, Some, None}
use Rattle.std.specs.Option.{option_map_or}
use Rattle.std.specs.List.{flat_map, range_with_len, enumerate_from}
use Rattle.std.specs.Int.{div_ceil}
use Rattle.class_pool.specs.declared.class.ClassFile.{ClassFile}
use Rattle.bytecode_model.specs.Types.{Kind}
use Rattle.bytecode_model.specs.State.{Object}
use Rattle.bytecode_model.specs.Program.{Method, is_of}
use Rattle.bytecode_model.specs.Effects.{component_of}
use Rattle.image_facts.specs.Words.{words_of, object_image}
use Rattle.image_facts.specs.Places.{Places, object_place}
use Rattle.image_facts.specs.Says.{bit_of, counted_type, instance_words, header_words, method_words}
use Rattle.class_lookup.specs.Hierarchy.{is_interface, extends}
use Rattle.class_lookup.specs.Lookup.{Place}
use Rattle.class_lookup.specs.Selection.{select}
use Rattle.program_tables.specs.Core.{raised_classes}
use Rattle.program_tables.specs.Numbers.{types_of, is_coded, method_number, strings_of}
use Rattle.program_tables.specs.Resolved.{raised_object, string_objects, resolved}
use Rattle.image_words.specs.Slots.{interface_methods, table_slots}
use Rattle.image_words.specs.Layout.{classes_of, places_with, outline_of}
use Rattle.image_words.specs.Pools.{pool_image}

abbrev pub first_place : List ClassFile → Places → (object : ℕ) → ℕ
first_place cs pl = object_place (resolved cs) pl (resolved cs).first_objects

-- ---- 1 to 3: the header; the places of the types of the arrays of numbers, and of the errors' objects; the static fields

abbrev pub header_region : List ClassFile → Places → List ℕ
header_region cs pl = header_words (resolved cs) pl

abbrev pub lists_region : List ClassFile → Places → List ℕ
lists_region cs pl = map pl.type (range_with_len 0 8) ++ map (first_place cs pl) (range_with_len 0 9)

abbrev pub statics_region : List ClassFile → Places → List ℕ
statics_region cs pl = flat_map (words_of (first_place cs pl)) (resolved cs).first_statics

-- ---- 4: types

-- bits as a number, the low one first
abbrev pub number_of_bits : List Bool → ℕ
number_of_bits [] = 0
number_of_bits (b ∷ bits) = bit_of b + 2 * number_of_bits bits

-- which of 32 types, from a number on, are the type or its supertypes
abbrev pub supertype_word : List ClassFile → Kind → (word : ℕ) → ℕ
supertype_word cs k j = number_of_bits (map (is_of (resolved cs) k) (take 32 (drop (32 * j) (types_of cs))))

abbrev pub supertype_words : List ClassFile → Kind → List ℕ
supertype_words cs k = map (supertype_word cs k) (range_with_len 0 (div_ceil (length (types_of cs)) 32))

abbrev pub type_image : List ClassFile → Places → ℕ × Kind → List ℕ
type_image cs pl e =
    e.0 ∷ instance_words (resolved cs) e.1 ∷ counted_type (resolved cs) (component_of (Some e.1)) ∷ pl.method_table e.0 ∷ pl.interface_table e.0
    ∷ supertype_words cs e.1

abbrev pub types_region : List ClassFile → Places → List ℕ
types_region cs pl = flat_map (type_image cs pl) (enumerate_from 0 (types_of cs))

-- ---- 5 and 6: tables of methods, and of interface methods

-- the place of a method with code, else 0
abbrev pub code_place : List ClassFile → Places → Option Place → ℕ
code_place cs pl None = 0
code_place cs pl (Some m) = if is_coded cs m then option_map_or pl.method (method_number cs m) 0 else 0

-- the method that is selected in the class
abbrev pub selected_place : List ClassFile → Places → (class : ℕ) → (method : Place) → ℕ
selected_place cs pl c m = code_place cs pl (select cs c m)

abbrev pub table_image : List ClassFile → Places → (class : ℕ) → List ℕ
table_image cs pl c = map (selected_place cs pl c) (table_slots cs c)

abbrev pub tables_region : List ClassFile → Places → List ℕ
tables_region cs pl = flat_map (table_image cs pl) (classes_of cs)

-- 0 where the class doesn't implement the interface
abbrev pub implemented_place : List ClassFile → Places → (class : ℕ) → (method : Place) → ℕ
implemented_place cs pl c m = if extends cs c m.0 then selected_place cs pl c m else 0

abbrev pub interface_image : List ClassFile → Places → (class : ℕ) → List ℕ
interface_image cs pl c = if is_interface cs c then [] else map (implemented_place cs pl c) (interface_methods cs)

-- first the table of zeros
abbrev pub interfaces_region : List ClassFile → Places → List ℕ
interfaces_region cs pl = replicate (length (interface_methods cs)) 0 ++ flat_map (interface_image cs pl) (classes_of cs)

-- ---- 7 and 8: pools, and methods with code

abbrev pub pools_region : List ClassFile → Places → List ℕ
pools_region cs pl = flat_map (λ e. pool_image cs pl e.0 e.1) (enumerate_from 0 cs)

abbrev pub method_image : List ClassFile → Places → Method → List ℕ
method_image cs pl k = option_map_or (method_words (resolved cs) pl k) k.body []

abbrev pub methods_region : List ClassFile → Places → List ℕ
methods_region cs pl = flat_map (method_image cs pl) (resolved cs).methods

-- ---- 9 and 10: the errors' objects, and the strings

abbrev pub objects_image : List ClassFile → Places → List Object → List ℕ
objects_image cs pl objects = flat_map (object_image (resolved cs) pl.type (first_place cs pl)) objects

abbrev pub raised_region : List ClassFile → Places → List ℕ
raised_region cs pl = objects_image cs pl (map (raised_object cs) raised_classes)

abbrev pub strings_region : List ClassFile → Places → List ℕ
strings_region cs pl = objects_image cs pl (flat_map string_objects (enumerate_from 0 (strings_of cs)))

-- ---- all of them

abbrev pub regions : List ClassFile → Places → List (List ℕ)
regions cs pl =
    header_region cs pl
    ∷ lists_region cs pl
    ∷ statics_region cs pl
    ∷ types_region cs pl
    ∷ tables_region cs pl
    ∷ interfaces_region cs pl
    ∷ pools_region cs pl
    ∷ methods_region cs pl
    ∷ raised_region cs pl
    ∷ strings_region cs pl
    ∷ []

unfoldable pub image_words_of : List ClassFile → List ℕ
image_words_of cs = flat_map (λ (region : List ℕ). region) (regions cs (outline_of cs))

-- what lies before the static fields, and between them and the objects
abbrev pub front_of : List ClassFile → Places → List ℕ
front_of cs pl = header_region cs pl ++ lists_region cs pl

abbrev pub middle_of : List ClassFile → Places → List ℕ
middle_of cs pl = types_region cs pl ++ (tables_region cs pl ++ (interfaces_region cs pl ++ (pools_region cs pl ++ methods_region cs pl)))

unfoldable pub places_of : List ClassFile → Places
places_of cs = places_with cs (front_of cs (outline_of cs)) (middle_of cs (outline_of cs))
