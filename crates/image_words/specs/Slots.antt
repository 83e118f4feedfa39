-- The slots of method tables, and the numbers of interface methods: where what is selected for a receiver's class is found (JVM Specification SE 8,
-- 5.4.5 and 6.5).
use Rattle.std.specs.Prelude.{ℕ, Bool, false, not, ◌&&◌, if◌then◌else◌, List, [], ◌∷◌, ◌++◌, length, map, Option, slice_get}
use Rattle.std.specs.Option.{option_map_or}
use Rattle.std.specs.List.{filter, range_with_len}
use Rattle.class_pool.specs.declared.class.ClassFile.{ClassFile}
use Rattle.lists.specs.Lists.{index_of}
use Rattle.class_lookup.specs.Parts.{same_signature, is_init}
use Rattle.class_lookup.specs.Hierarchy.{superclasses, is_interface, extends}
use Rattle.class_lookup.specs.Lookup.{Place, same_place}
use Rattle.class_lookup.specs.Selection.{signature_at, is_virtual}
use Rattle.program_tables.specs.Lists.{with_items}
use Rattle.program_tables.specs.Numbers.{places_of}

-- both are methods, of one name and descriptor
abbrev pub are_named_alike : List ClassFile → (method other : Place) → Bool
are_named_alike cs m a = option_map_or (λ s. option_map_or (same_signature s) (signature_at cs a) false) (signature_at cs m) false

-- ---- the methods of interfaces

-- by number: by class, and within a class as they stand there
unfoldable pub interface_methods : List ClassFile → List Place
interface_methods cs = filter (λ m. is_interface cs m.0) (places_of (λ k. k.methods) cs)

abbrev pub interface_number : List ClassFile → (method : Place) → Option ℕ
interface_number cs m = index_of (same_place m) (interface_methods cs)

-- those of the superinterfaces of a class
abbrev pub inherited_methods : List ClassFile → (class : ℕ) → List Place
inherited_methods cs c = filter (λ m. extends cs c m.0) (interface_methods cs)

-- ---- slots

-- the methods that the class declares
abbrev pub own_methods : List ClassFile → (class : ℕ) → List Place
own_methods cs c = option_map_or (λ k. map (λ i. (c, i)) (range_with_len 0 (length k.methods))) (slice_get cs c) []

-- an instance method that isn't private and no instance initialization method
abbrev pub has_slot : List ClassFile → (method : Place) → Bool
has_slot cs m = is_virtual cs m && not (option_map_or is_init (signature_at cs m) false)

abbrev pub own_slots : List ClassFile → (class : ℕ) → List Place
own_slots cs c = filter (has_slot cs) (own_methods cs c)

-- The methods for which the slots of a class are made, from the class upwards: first the slots of its superclass, then one for each own method that
-- has one, and then one for each method of a superinterface whose name and descriptor no slot has yet.
abbrev pub slots_along : List ClassFile → (classes : List ℕ) → List Place
slots_along cs [] = []
slots_along cs (c ∷ above) = with_items (are_named_alike cs) (slots_along cs above ++ own_slots cs c) (inherited_methods cs c)

unfoldable pub slots : List ClassFile → (class : ℕ) → List Place
slots cs c = slots_along cs (superclasses cs c)

-- the table of a class has its slots; an interface has no table
abbrev pub table_slots : List ClassFile → (class : ℕ) → List Place
table_slots cs c = if is_interface cs c then [] else slots cs c

-- the slot of a method that is named through a class: the one that is made for it, or for a method of an interface the first of its name and descriptor
abbrev pub slot_of : List ClassFile → (named : ℕ) → (method : Place) → Option ℕ
slot_of cs named m = index_of (if is_interface cs m.0 then are_named_alike cs m else same_place m) (table_slots cs named)
