-- A class's name and its place in the hierarchy: JVM Specification SE 8, 4.1, 4.6, 5.3.5 and 5.4.5.
use Rattle.std.specs.Prelude.{ℕ, ◌+◌, ◌-◌, Bool, false, not, ◌&&◌, ◌||◌, ◌==◌, nat_lt, if◌then◌else◌, List, [], ◌∷◌, ◌++◌, length, Option, Some, None, is_none}
use Rattle.std.specs.Prelude.{slice_get}
use Rattle.std.specs.Option.{option_map_or}
use Rattle.std.specs.List.{list_any, range_with_len}
use Rattle.class_pool.specs.declared.class.ClassFile.{ClassFile}
use Rattle.bytecode_model.specs.Lists.{onto}
use Rattle.bytecode_model.specs.Program.{object_class}
use Rattle.class_lookup.specs.Parts.{name_of, is_final_class, is_interface_class, is_final}
use Rattle.class_lookup.specs.Hierarchy.{find_class, superclass, superinterfaces, is_interface, is_on_a_cycle}
use Rattle.class_lookup.specs.Lookup.{Place}
use Rattle.class_lookup.specs.Selection.{signature_at, is_method_with, upwards, overrides}
use Rattle.program_tables.specs.Core.{is_boot}

-- ---- names

-- the class of the same name that stands before this one, or else the last class, where this one has its name
abbrev pub duplicate_by : List ClassFile → (class : ℕ) → ClassFile → (found : Option ℕ) → Option ℕ
duplicate_by cs c k None = None
duplicate_by cs c k (Some d) = if nat_lt d c then Some d else if is_boot k && not (c + 1 == length cs) then Some (length cs - 1) else None

abbrev pub duplicate_of : List ClassFile → (class : ℕ) → Option ℕ
duplicate_of cs c = onto (slice_get cs c) (λ k. duplicate_by cs c k (find_class cs (name_of k)))

-- ---- superclasses and superinterfaces

-- the Class entries of the superclass, if there is one, and of the superinterfaces
abbrev pub supertype_entries : ClassFile → List ℕ
supertype_entries k = (if k.super_class == 0 then [] else k.super_class ∷ []) ++ k.interfaces

-- only java/lang/Object has no superclass
abbrev pub lacks_superclass : List ClassFile → (class : ℕ) → Bool
lacks_superclass cs c = is_none (superclass cs c) && not (c == object_class)

abbrev pub may_have_subclasses : ClassFile → Bool
may_have_subclasses d = not (is_final_class d || is_interface_class d)

-- a final class or an interface as superclass
abbrev pub has_bad_superclass : List ClassFile → (class : ℕ) → Bool
has_bad_superclass cs c = option_map_or (λ d. option_map_or (λ k. not (may_have_subclasses k)) (slice_get cs d) false) (superclass cs c) false

-- a class as superinterface
abbrev pub has_bad_superinterface : List ClassFile → (class : ℕ) → Bool
has_bad_superinterface cs c = list_any (λ d. not (is_interface cs d)) (superinterfaces cs c)

-- an interface whose superclass isn't java/lang/Object
abbrev pub is_bad_interface : List ClassFile → (class : ℕ) → Bool
is_bad_interface cs c = is_interface cs c && option_map_or (λ d. not (d == object_class)) (superclass cs c) false

-- the method overrides a final one
abbrev pub overrides_final : List ClassFile → (m : Place) → Bool
overrides_final cs m = option_map_or (λ s. list_any (λ a. is_method_with is_final cs a && overrides cs m a) (upwards cs s m.0)) (signature_at cs m) false

abbrev pub has_overridden_final : List ClassFile → (class : ℕ) → Bool
has_overridden_final cs c = option_map_or (λ k. list_any (λ i. overrides_final cs (c, i)) (range_with_len 0 (length k.methods))) (slice_get cs c) false

-- why a class's place in the hierarchy is refused
abbrev pub is_badly_placed : List ClassFile → (class : ℕ) → Bool
is_badly_placed cs c =
    lacks_superclass cs c || is_on_a_cycle cs c || has_bad_superclass cs c || has_bad_superinterface cs c || is_bad_interface cs c || has_overridden_final cs c
