-- Classes by number, and their hierarchy: JVM Specification SE 8, 4.1, 5.3.5 and 5.4.4.
-- A class's number is its place in the list of class files.
use Rattle.std.specs.Prelude.{ℕ, ◌<◌, Bool, false, not, List, [], ◌++◌, length, Option, slice_get, slice_index, IsTrue}
use Rattle.std.specs.Option.{option_map_or, option_to_list}
use Rattle.std.specs.List.{filter_map, flat_map, list_any}
use Rattle.class_pool.specs.declared.class.ClassFile.{ClassFile}
use Rattle.lists.specs.Lists.{onto, index_of}
pub use Rattle.lists.specs.Numbers.{reached, is_among}
use Rattle.class_lookup.specs.Parts.{same_text, name_of, superclass_name, superinterface_names, is_interface_class, is_abstract_class}

abbrev pub find_class : List ClassFile → (name : List ℕ) → Option ℕ
find_class cs name = index_of (λ c. same_text (name_of c) name) cs

-- the direct superclass
abbrev pub superclass : List ClassFile → (class : ℕ) → Option ℕ
superclass cs c = onto (slice_get cs c) (λ k. find_class cs (superclass_name k))

-- the direct superinterfaces, in order
abbrev pub superinterfaces : List ClassFile → (class : ℕ) → List ℕ
superinterfaces cs c = option_map_or (λ k. filter_map (find_class cs) (superinterface_names k)) (slice_get cs c) []

abbrev pub is_interface : List ClassFile → (class : ℕ) → Bool
is_interface cs c = option_map_or is_interface_class (slice_get cs c) false

-- there is such a class, and it is neither an abstract class nor an interface
abbrev pub is_concrete : List ClassFile → (class : ℕ) → Bool
is_concrete cs c = option_map_or (λ k. not (is_abstract_class k)) (slice_get cs c) false

-- the direct superinterfaces in order, and then the direct superclass
abbrev pub direct_supertypes : List ClassFile → (class : ℕ) → List ℕ
direct_supertypes cs c = superinterfaces cs c ++ option_to_list (superclass cs c)

-- ---- from a class upwards

-- As no class is its own superclass or superinterface, a way upwards has at most as many classes as there are.

-- the class, its direct superclass, and so on
unfoldable pub superclasses : List ClassFile → (class : ℕ) → List ℕ
superclasses cs c = reached (λ k. option_to_list (superclass cs k)) (length cs) c

-- a class or an interface, then its direct superinterfaces in order, each with its own superinterfaces before the next
unfoldable pub with_superinterfaces : List ClassFile → (class : ℕ) → List ℕ
with_superinterfaces cs c = reached (superinterfaces cs) (length cs) c

-- the class, then its direct superinterfaces in order, and then its superclass, each with its own before the next
unfoldable pub supertypes : List ClassFile → (class : ℕ) → List ℕ
supertypes cs c = reached (direct_supertypes cs) (length cs) c

-- the superinterfaces of a class, before those of its superclass
abbrev pub all_superinterfaces : List ClassFile → (class : ℕ) → List ℕ
all_superinterfaces cs c = flat_map (λ k. flat_map (with_superinterfaces cs) (superinterfaces cs k)) (superclasses cs c)

-- the second class is a superclass of the first: its direct superclass, or a superclass of that
abbrev pub is_subclass : List ClassFile → (class other : ℕ) → Bool
is_subclass cs c d = list_any (λ s. is_among (superclasses cs s) d) (option_to_list (superclass cs c))

-- the first class is the second, or has it as a superclass or a superinterface
abbrev pub extends : List ClassFile → (class other : ℕ) → Bool
extends cs c d = is_among (supertypes cs c) d

-- ---- no class is its own superclass or superinterface (4.1, 5.3.5)

-- the class is a superclass or a superinterface of itself
abbrev pub is_on_a_cycle : List ClassFile → (class : ℕ) → Bool
is_on_a_cycle cs c = list_any (λ d. extends cs d c) (direct_supertypes cs c)

-- each class has a rank, below the number of classes and above the ranks of its direct superclass and superinterfaces; what is no class has rank 0
pub record IsRanked (cs : List ClassFile) (ranks : List ℕ) : Type 0 where
  pub bounded : (c : ℕ) → slice_index ranks c < length cs
  pub falls : (c d : ℕ) → IsTrue (is_among (direct_supertypes cs c) d) → slice_index ranks d < slice_index ranks c

pub record IsAcyclic (cs : List ClassFile) : Type 0 where
  pub ranks : List ℕ
  pub ranked : IsRanked cs ranks
