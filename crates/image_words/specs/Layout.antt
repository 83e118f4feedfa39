-- Where the parts of an image lie: one region behind another, and in a region one item behind another.
use Rattle.std.specs.Prelude.{ℕ, ◌+◌, ◌*◌, if◌then◌else◌, List, length, take, replicate, sum_by, slice_get}
use Rattle.std.specs.Option.{option_map_or}
use Rattle.std.specs.List.{range_with_len}
use Rattle.std.specs.Int.{div_ceil}
use Rattle.base.specs.Packed.{words_for}
use Rattle.class_pool.specs.declared.class.ClassFile.{ClassFile}
use Rattle.bytecode_model.specs.Types.{Kind, OfClass}
use Rattle.bytecode_model.specs.Program.{Method, Body, object_class}
use Rattle.image_facts.specs.Words.{declared_words}
use Rattle.image_facts.specs.Places.{Places}
use Rattle.class_lookup.specs.Hierarchy.{is_interface}
use Rattle.program_tables.specs.Numbers.{types_of}
use Rattle.program_tables.specs.Resolved.{resolved}
use Rattle.image_words.specs.Slots.{interface_methods, table_slots}

-- ---- how many words each item takes

-- a type: five words, and one for 32 types
abbrev pub type_words : List ClassFile → ℕ
type_words cs = 5 + div_ceil (length (types_of cs)) 32

abbrev pub table_words : List ClassFile → (class : ℕ) → ℕ
table_words cs c = length (table_slots cs c)

-- an interface has no table of interface methods
abbrev pub interface_words : List ClassFile → (class : ℕ) → ℕ
interface_words cs c = if is_interface cs c then 0 else length (interface_methods cs)

-- a pool: two words for each index, 0 among them
abbrev pub pool_words : ClassFile → ℕ
pool_words k = 2 * (1 + length k.pool)

-- a method with code: four words, three for each entry of its exception table, and its code
abbrev pub body_size : Body → ℕ
body_size b = 4 + (3 * length b.handlers + words_for (length b.code))

abbrev pub method_size : Method → ℕ
method_size k = option_map_or body_size k.body 0

-- ---- how many words the regions take

-- the header, the list of the arrays of numbers, and that of the errors' objects
abbrev pub front_size : ℕ
front_size = 16 + (8 + 9)

abbrev pub statics_size : List ClassFile → ℕ
statics_size cs = sum_by declared_words (resolved cs).statics

abbrev pub classes_of : List ClassFile → List ℕ
classes_of cs = range_with_len 0 (length cs)

abbrev pub types_size : List ClassFile → ℕ
types_size cs = length (types_of cs) * type_words cs

abbrev pub tables_size : List ClassFile → ℕ
tables_size cs = sum_by (table_words cs) (classes_of cs)

-- the table of zeros comes first
abbrev pub interfaces_size : List ClassFile → ℕ
interfaces_size cs = length (interface_methods cs) + sum_by (interface_words cs) (classes_of cs)

abbrev pub pools_size : List ClassFile → ℕ
pools_size cs = sum_by pool_words cs

abbrev pub methods_size : List ClassFile → ℕ
methods_size cs = sum_by method_size (resolved cs).methods

-- types, tables, pools and methods
abbrev pub middle_size : List ClassFile → ℕ
middle_size cs = types_size cs + (tables_size cs + (interfaces_size cs + (pools_size cs + methods_size cs)))

-- ---- where the regions begin

abbrev pub types_place : List ClassFile → ℕ
types_place cs = front_size + statics_size cs

abbrev pub tables_place : List ClassFile → ℕ
tables_place cs = types_place cs + types_size cs

abbrev pub interfaces_place : List ClassFile → ℕ
interfaces_place cs = tables_place cs + tables_size cs

abbrev pub pools_place : List ClassFile → ℕ
pools_place cs = interfaces_place cs + interfaces_size cs

abbrev pub methods_place : List ClassFile → ℕ
methods_place cs = pools_place cs + pools_size cs

-- ---- where the items lie

abbrev pub type_place : List ClassFile → (type : ℕ) → ℕ
type_place cs t = types_place cs + t * type_words cs

abbrev pub table_place : List ClassFile → (class : ℕ) → ℕ
table_place cs c = tables_place cs + sum_by (table_words cs) (take c (classes_of cs))

abbrev pub interface_place : List ClassFile → (class : ℕ) → ℕ
interface_place cs c = interfaces_place cs + (length (interface_methods cs) + sum_by (interface_words cs) (take c (classes_of cs)))

abbrev pub pool_place : List ClassFile → (class : ℕ) → ℕ
pool_place cs c = pools_place cs + sum_by pool_words (take c cs)

abbrev pub method_place : List ClassFile → (method : ℕ) → ℕ
method_place cs m = methods_place cs + sum_by method_size (take m (resolved cs).methods)

-- a class has its tables; an array those of Object, and of interface methods that of zeros; an interface has none but that of zeros
abbrev pub table_of : List ClassFile → Kind → ℕ
table_of cs (OfClass c) = if is_interface cs c then 0 else table_place cs c
table_of cs k = table_place cs object_class

abbrev pub interface_table_of : List ClassFile → Kind → ℕ
interface_table_of cs (OfClass c) = if is_interface cs c then interfaces_place cs else interface_place cs c
interface_table_of cs k = interfaces_place cs

-- with these words in front and in the middle
abbrev pub places_with : List ClassFile → (front middle : List ℕ) → Places
places_with cs front middle = record {
  front = front;
  middle = middle;
  method = method_place cs;
  type = type_place cs;
  pool = pool_place cs;
  method_table = λ t. option_map_or (table_of cs) (slice_get (types_of cs) t) 0;
  interface_table = λ t. option_map_or (interface_table_of cs) (slice_get (types_of cs) t) 0;
  arrays = 16;
  raise_list = 24;
}

-- before the words are written, all are 0
abbrev pub outline_of : List ClassFile → Places
outline_of cs = places_with cs (replicate front_size 0) (replicate (middle_size cs) 0)
