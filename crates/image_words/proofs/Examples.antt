-- The worked hierarchy, computed.
use Rattle.std.proofs.Common.{refl}
use Rattle.class_lookup.specs.Hierarchy.{superclasses, with_superinterfaces, supertypes}
use Rattle.class_lookup.specs.Lookup.{find_method}
use Rattle.class_lookup.specs.Selection.{select}
use Rattle.program_tables.specs.Instructions.{instructions_in}
use Rattle.program_tables.specs.Numbers.{fields_by_number, types_of}
use Rattle.image_words.specs.Slots.{interface_methods, slots}
use Rattle.image_words.specs.Example.{WorkedSlots, InterfaceMethods, Slots, SlotNumbers, SelectedInTables, TablePlaces}

numbers_of_methods : InterfaceMethods
unfolding interface_methods
numbers_of_methods = (refl, refl, refl)

slots_of_classes : Slots
unfolding slots interface_methods superclasses with_superinterfaces supertypes
slots_of_classes = (refl, refl, refl, refl, refl)

numbers_of_slots : SlotNumbers
unfolding slots interface_methods superclasses with_superinterfaces supertypes find_method
numbers_of_slots = (refl, refl, refl, refl, refl, refl, refl, refl)

selected_in_tables : SelectedInTables
unfolding slots interface_methods superclasses with_superinterfaces supertypes select
selected_in_tables = (refl, refl, refl)

places_of_tables : TablePlaces
unfolding slots interface_methods superclasses with_superinterfaces supertypes fields_by_number types_of instructions_in
places_of_tables = (refl, refl, refl, refl, refl, refl, refl)

pub worked : WorkedSlots
worked = record { interface_methods = numbers_of_methods; slots = slots_of_classes; numbers = numbers_of_slots; selected = selected_in_tables; places = places_of_tables }
