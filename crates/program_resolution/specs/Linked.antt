-- The classes of a program: the core classes, those of the files in order, and jop/Boot, the one that is run, which initializes the classes and calls main:
-- JVM Specification SE 8, 5.2 and 5.5.
use Rattle.std.specs.Prelude.{ℕ, ◌+◌, Bool, not, ◌&&◌, nat_eq, nat_le, if◌then◌else◌, List, [], ◌∷◌, ◌++◌, length, reverse, take, drop, Option, Some}
use Rattle.std.specs.Prelude.{None, find, is_some, slice_get}
use Rattle.std.specs.Option.{option_map_or}
use Rattle.std.specs.List.{filter_map, flat_map, list_any, range_with_len}
use Rattle.program_tables.specs.Core.{core_count}
use Rattle.class_pool.specs.Utf8.{utf8_bytes}
use Rattle.class_pool.specs.declared.class.ClassFile.{ClassFile}
use Rattle.lists.specs.Lists.{onto}
use Rattle.class_lookup.specs.Parts.{same_text, name_of, signature_of, same_signature, is_public, is_static}
use Rattle.class_lookup.specs.Hierarchy.{superclasses, is_on_a_cycle}
use Rattle.program_tables.specs.Lists.{distinct}
use Rattle.core_classes.specs.Core.{core, boot}
use Rattle.core_classes.specs.Linkage.{main_signature, initializer}

-- the most files of a program
abbrev pub most_files : ℕ
most_files = 1024

-- ---- main

-- the file's class whose name these bytes spell (4.4.7)
abbrev pub main_class : List ClassFile → (main : List ℕ) → Option ClassFile
main_class ks main = find (λ k. same_text (utf8_bytes (name_of k)) main) ks

abbrev pub main_name : List ClassFile → (main : List ℕ) → List ℕ
main_name ks main = option_map_or name_of (main_class ks main) []

-- public static void main(String[])
abbrev pub declares_main : ClassFile → Bool
declares_main k = list_any (λ m. is_public m && is_static m && same_signature (signature_of k m) main_signature) k.methods

-- ---- initialization (5.5)

-- the class has an initialization method (2.9)
abbrev pub is_initialized : ClassFile → Bool
is_initialized k = list_any (λ m. is_static m && same_signature (signature_of k m) initializer) k.methods

-- the classes in their order, but directly before each class its superclasses that haven't had their turn, the uppermost first
abbrev pub initialization_order : List ClassFile → List ℕ
initialization_order cs = distinct nat_eq (flat_map (λ c. reverse (superclasses cs c)) (range_with_len 0 (length cs)))

-- the names of the classes whose initialization methods are called, in that order
abbrev pub initialized : List ClassFile → List (List ℕ)
initialized cs = filter_map (λ c. onto (slice_get cs c) (λ k. if is_initialized k then Some (name_of k) else None)) (initialization_order cs)

-- the first class that is a superclass or a superinterface of itself
abbrev pub first_on_cycle : List ClassFile → Option ℕ
first_on_cycle cs = find (is_on_a_cycle cs) (range_with_len 0 (length cs))

-- What the class that is run calls makes no difference to other classes. It calls nothing where there are too many classes, or where some class is above itself
-- and so no class is the first: such files are refused anyway.
abbrev pub calls_of : List ClassFile → List (List ℕ)
calls_of ks = if nat_le (length ks) most_files && not (is_some (first_on_cycle (core ++ ks))) then initialized (core ++ ks) else []

-- ---- all classes

unfoldable pub linked_classes : List ClassFile → (main : List ℕ) → List ClassFile
linked_classes ks main = core ++ (ks ++ boot (calls_of ks) (main_name ks main) ∷ [])

-- the number of a file's class, behind the core classes
abbrev pub number_of : (file : ℕ) → ℕ
number_of file = core_count + file

-- the classes of so many files
abbrev pub files_in : List ClassFile → (count : ℕ) → List ClassFile
files_in cs count = take count (drop core_count cs)
