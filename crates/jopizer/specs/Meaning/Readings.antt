-- The readings of a StackMapTable agree: that of its types, and that of the classes that it names (JVM Specification SE 8, 4.7.4).
use Rattle.std.specs.Prelude.{◌≡◌, ◌↔◌, ℕ, ◌≤◌, IsTrue, List, [], ◌∷◌, ◌++◌, map, Some, None}
use Rattle.std.specs.List.{list_all, flat_map}
use Rattle.class_pool.specs.declared.entry.Entry.{Entry}
use Rattle.class_pool.specs.declared.class.Code.{Code}
use Rattle.class_pool.specs.Grammar.{entry_at, is_class}
use Rattle.class_lookup.specs.Parts.{class_text}
use Rattle.frame_types.specs.declared.types.VarType.{VarType}
use Rattle.frame_types.specs.declared.types.VarType.TheVariants.{Object}
use Rattle.frame_types.specs.declared.read.Change.{Change}
use Rattle.frame_types.specs.declared.read.Change.TheVariants.{Same, OneItem, Chop, Append, Full}
use Rattle.frame_types.specs.declared.read.MapEntry.{MapEntry}
use Rattle.frame_types.specs.Table.{table_in, entries_of}
use Rattle.program_tables.specs.FrameClasses.{counted, type_in, frame_in, behind_delta, classes_in_frames}
use Rattle.unresolved_names.specs.Frames.{index_in, place_in, change_in}

-- the name of the class in a type
abbrev pub names_in_type : VarType → List (List ℕ)
names_in_type (Object name) = name ∷ []
names_in_type t = []

abbrev pub names_in_change : Change → List (List ℕ)
names_in_change Same = []
names_in_change (OneItem item) = names_in_type item
names_in_change (Chop n) = []
names_in_change (Append more) = flat_map names_in_type more
names_in_change (Full all operands) = flat_map names_in_type all ++ flat_map names_in_type operands

-- the names of the classes in frames, in the order in which they stand there
abbrev pub names_in : List MapEntry → List (List ℕ)
names_in entries = flat_map (λ e. names_in_change e.change) entries

-- the bytes are a number of frames and just so many of them, which name the classes of these indexes, each that of a Class entry
pub record AreFramesOf (pool : List Entry) (bytes classes : List ℕ) : Type 0 where
  pub read : counted frame_in bytes ≡ Some (classes, [])
  pub entries : IsTrue (list_all (λ index. is_class (entry_at pool index)) classes)

-- a type with an index, and what stands behind the tag of a frame whose offset has two bytes, read apart, are what they are in a frame
pub record PartsAgree : Type 0 where
  pub index : (bytes : List ℕ) → type_in (7 ∷ bytes) ≡ index_in bytes
  pub place : (bytes : List ℕ) → type_in (8 ∷ bytes) ≡ place_in bytes
  pub change : (tag : ℕ) (bytes : List ℕ) → 247 ≤ tag → frame_in (tag ∷ bytes) ≡ behind_delta (change_in tag) bytes

pub record ReadingsAgree : Type 0 where
  -- the same bytes are a list of frames
  pub same_lists : (pool : List Entry) (bytes : List ℕ) → ((entries : List MapEntry) × (table_in pool bytes ≡ Some entries))
      ↔ ((classes : List ℕ) × AreFramesOf pool bytes classes)
  -- they name the same classes; what is no list names none
  pub same_classes : (pool : List Entry) (code : Code) (entries : List MapEntry) → entries_of pool code ≡ Some entries
      → names_in entries ≡ map (class_text pool) (classes_in_frames pool code)
  pub no_classes : (pool : List Entry) (code : Code) → entries_of pool code ≡ None → classes_in_frames pool code ≡ []
  pub parts : PartsAgree
