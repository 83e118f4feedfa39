-- A hierarchy of classes and interfaces, as a computed example of slots, of the numbers of interface methods, and of where the tables lie: JVM
-- Specification SE 8, 5.4.5 and 6.5.
use Rattle.std.specs.Prelude.{◌≡◌, List, [], ◌∷◌, codes, map, Some, None}
use Rattle.class_pool.specs.declared.class.ClassFile.{ClassFile}
use Rattle.class_lookup.specs.Lookup.{find_method}
use Rattle.class_lookup.specs.Selection.{select}
use Rattle.class_lookup.specs.Example.{class_of, void}
use Rattle.image_words.specs.Slots.{interface_methods, interface_number, table_slots, slot_of}
use Rattle.image_words.specs.Layout.{tables_place, interfaces_place, pools_place, table_place, interface_place}

-- an abstract class that implements two interfaces, and two classes below it
abbrev pub worked_classes : List ClassFile
worked_classes =
    -- 0
    class_of 33 [] (codes "java/lang/Object") [] ((1, codes "<init>", codes "()V") ∷ [])
    -- 1
    ∷ class_of 1537 (codes "java/lang/Object" ∷ []) (codes "I") []
    ((8, codes "<clinit>", codes "()V") ∷ (1025, codes "k", codes "()V") ∷ (1025, codes "l", codes "()V") ∷ [])
    -- 2
    ∷ class_of 1537 (codes "java/lang/Object" ∷ codes "I" ∷ []) (codes "J") [] ((1025, codes "k", codes "()V") ∷ (1025, codes "j", codes "()V") ∷ [])
    -- 3
    ∷ class_of 1057 (codes "java/lang/Object" ∷ codes "J" ∷ []) (codes "A") []
    ((1, codes "<init>", codes "()V") ∷ (1, codes "f", codes "()V") ∷ (2, codes "g", codes "()V") ∷ (9, codes "s", codes "()V") ∷ [])
    -- 4
    ∷ class_of 1057 (codes "A" ∷ codes "I" ∷ []) (codes "B") [] ((1, codes "f", codes "()V") ∷ (1, codes "k", codes "()V") ∷ (1, codes "l", codes "()V") ∷ [])
    -- 5
    ∷ class_of 33 (codes "B" ∷ []) (codes "C") [] ((1, codes "j", codes "()V") ∷ [])
    ∷ []

-- by class, and then as they stand there
abbrev pub InterfaceMethods : Type 0
InterfaceMethods =
    (interface_methods worked_classes ≡ (1, 0) ∷ (1, 1) ∷ (1, 2) ∷ (2, 0) ∷ (2, 1) ∷ []) × (interface_number worked_classes (2, 1) ≡ Some 4)
    × (interface_number worked_classes (3, 1) ≡ None)

-- Object and interfaces have no slot; a class has its superclass's, its own, and one for each name and descriptor of its interfaces that is left
abbrev pub Slots : Type 0
Slots =
    (table_slots worked_classes 0 ≡ [])
    × (table_slots worked_classes 2 ≡ [])
    × (table_slots worked_classes 3 ≡ (3, 1) ∷ (1, 0) ∷ (1, 1) ∷ (1, 2) ∷ (2, 1) ∷ [])
    × (table_slots worked_classes 4 ≡ (3, 1) ∷ (1, 0) ∷ (1, 1) ∷ (1, 2) ∷ (2, 1) ∷ (4, 0) ∷ (4, 1) ∷ (4, 2) ∷ [])
    × (table_slots worked_classes 5 ≡ (3, 1) ∷ (1, 0) ∷ (1, 1) ∷ (1, 2) ∷ (2, 1) ∷ (4, 0) ∷ (4, 1) ∷ (4, 2) ∷ (5, 0) ∷ [])

-- a method of the class, one that overrides it, one of an interface by its name, one that has none
abbrev pub SlotNumbers : Type 0
SlotNumbers =
    (find_method worked_classes 3 (void (codes "k")) ≡ Some (2, 0))
    × (slot_of worked_classes 3 (2, 0) ≡ Some 2)
    × (slot_of worked_classes 3 (3, 1) ≡ Some 0)
    × (slot_of worked_classes 4 (4, 0) ≡ Some 5)
    × (slot_of worked_classes 5 (4, 1) ≡ Some 6)
    × (slot_of worked_classes 4 (2, 1) ≡ Some 4)
    × (slot_of worked_classes 3 (3, 2) ≡ None)
    × (slot_of worked_classes 1 (1, 0) ≡ None)

-- what is selected for the methods of the slots
abbrev pub SelectedInTables : Type 0
SelectedInTables =
    (map (select worked_classes 3) (table_slots worked_classes 3) ≡ Some (3, 1) ∷ None ∷ None ∷ None ∷ None ∷ [])
    × (map (select worked_classes 4) (table_slots worked_classes 4) ≡ Some (4, 0) ∷ None ∷ Some (4, 1) ∷ Some (4, 2) ∷ None ∷ Some (4, 0) ∷ Some (4, 1)
    ∷ Some (4, 2) ∷ [])
    × (map (select worked_classes 5) (table_slots worked_classes 5)
    ≡ Some (4, 0) ∷ None ∷ Some (4, 1) ∷ Some (4, 2) ∷ Some (5, 0) ∷ Some (4, 0) ∷ Some (4, 1) ∷ Some (4, 2) ∷ Some (5, 0) ∷ [])

-- 14 types of six words lie behind the 33 words of the front
abbrev pub TablePlaces : Type 0
TablePlaces =
    (tables_place worked_classes ≡ 117)
    × (table_place worked_classes 4 ≡ 122)
    × (table_place worked_classes 5 ≡ 130)
    × (interfaces_place worked_classes ≡ 139)
    × (interface_place worked_classes 0 ≡ 144)
    × (interface_place worked_classes 5 ≡ 159)
    × (pools_place worked_classes ≡ 164)

pub record WorkedSlots : Type 0 where
  pub interface_methods : InterfaceMethods
  pub slots : Slots
  pub numbers : SlotNumbers
  pub selected : SelectedInTables
  pub places : TablePlaces
