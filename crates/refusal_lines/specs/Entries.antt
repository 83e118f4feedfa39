-- What a pool entry names that isn't resolved, in bytes (JVM Specification SE 8, 4.4 and 4.4.7): the class, or the class, a dot, the name and the
-- descriptor of a member; but where a class isn't there the first such class that the entry names.
use Rattle.std.specs.Prelude.{ℕ, not, Bool, ◌||◌, List, [], ◌∷◌, ◌++◌, Option, find}
use Rattle.std.specs.Option.{option_map_or}
use Rattle.std.specs.List.{list_any}
use Rattle.class_pool.specs.Utf8.{utf8_bytes}
use Rattle.class_pool.specs.Grammar.{entry_at, name_and_type_of, text_at}
use Rattle.class_pool.specs.declared.entry.Entry.{Entry}
use Rattle.class_pool.specs.declared.entry.Entry.TheVariants.{Utf8, Class, Field, Method, InterfaceMethod}
use Rattle.class_pool.specs.declared.class.ClassFile.{ClassFile}
use Rattle.class_lookup.specs.Parts.{class_text, same_text, name_of}
use Rattle.program_tables.specs.Core.{boot_name}
use Rattle.program_tables.specs.Kinds.{type_named, class_in_type, classes_in_field_descriptor, classes_in_method_descriptor}
use Rattle.program_tables.specs.declared.refusal.Why.{Why}
use Rattle.program_tables.specs.declared.refusal.Why.TheVariants.{NoClass}

-- ---- classes that are there

-- a class of this name is among the core classes or those of the files, or it is the one that is run
abbrev pub is_there : (before files : List ClassFile) → (name : List ℕ) → Bool
is_there before files name = list_any (λ k. same_text (name_of k) name) before || (list_any (λ k. same_text (name_of k) name) files || same_text name boot_name)

-- the first of the classes that isn't there
unfoldable pub missing : (before files : List ClassFile) → (names : List (List ℕ)) → Option (List ℕ)
missing before files names = find (λ name. not (is_there before files name)) names

-- ---- classes that an entry names

-- the class of a Class entry, or the class of its array's elements (4.4.1)
unfoldable pub class_in_name : List ℕ → List (List ℕ)
class_in_name text = option_map_or class_in_type (type_named text) []

-- of the descriptor of a field or of a method, from left to right (4.3)
abbrev pub classes_in_descriptor : List ℕ → List (List ℕ)
classes_in_descriptor text = classes_in_field_descriptor text ++ classes_in_method_descriptor text

abbrev pub descriptor_in : List Entry → (member : ℕ) → List ℕ
descriptor_in pool member = option_map_or (λ n. text_at pool n.1) (name_and_type_of (entry_at pool member)) []

-- the class through which a member is named, then those of its descriptor
abbrev pub classes_in_member : List Entry → (owner member : ℕ) → List (List ℕ)
classes_in_member pool owner member = class_in_name (class_text pool owner) ++ classes_in_descriptor (descriptor_in pool member)

-- the text of an entry is the descriptor of a declared member
abbrev pub classes_in_entry : List Entry → Entry → List (List ℕ)
classes_in_entry pool (Utf8 units) = classes_in_descriptor units
classes_in_entry pool (Class name) = class_in_name (text_at pool name)
classes_in_entry pool (Field owner member) = classes_in_member pool owner member
classes_in_entry pool (Method owner member) = classes_in_member pool owner member
classes_in_entry pool (InterfaceMethod owner member) = classes_in_member pool owner member
classes_in_entry pool entry = []

-- ---- what an entry names

abbrev pub signature_bytes : List Entry → (member : ℕ) → List ℕ
signature_bytes pool member = option_map_or (λ n. utf8_bytes (text_at pool n.0) ++ utf8_bytes (text_at pool n.1)) (name_and_type_of (entry_at pool member)) []

abbrev pub member_bytes : List Entry → (owner member : ℕ) → List ℕ
member_bytes pool owner member = utf8_bytes (class_text pool owner) ++ 46 ∷ signature_bytes pool member

abbrev pub entry_bytes : List Entry → Entry → List ℕ
entry_bytes pool (Class name) = utf8_bytes (text_at pool name)
entry_bytes pool (Field owner member) = member_bytes pool owner member
entry_bytes pool (Method owner member) = member_bytes pool owner member
entry_bytes pool (InterfaceMethod owner member) = member_bytes pool owner member
entry_bytes pool entry = []

abbrev pub unresolved_bytes : (before files : List ClassFile) → List Entry → Why → Entry → List ℕ
unresolved_bytes before files pool NoClass entry = option_map_or utf8_bytes (missing before files (classes_in_entry pool entry)) []
unresolved_bytes before files pool why entry = entry_bytes pool entry
