-- A hierarchy of classes in three packages, as computed examples of what is looked up and selected: JVM Specification SE 8, 5.4.3 to 5.4.5.
use Rattle.std.specs.Prelude.{◌≡◌, ℕ, ◌+◌, ◌*◌, true, false, List, [], ◌∷◌, ◌++◌, codes, length, map, Option, Some, None}
use Rattle.std.specs.List.{enumerate_from, flat_map}
use Rattle.class_pool.specs.declared.entry.Entry.{Entry}
use Rattle.class_pool.specs.declared.entry.Entry.TheVariants as entries
use Rattle.class_pool.specs.declared.class.Member.{Member}
use Rattle.class_pool.specs.declared.class.ClassFile.{ClassFile}
use Rattle.class_lookup.specs.Parts.{Signature}
use Rattle.class_lookup.specs.Hierarchy.{extends}
use Rattle.class_lookup.specs.Lookup.{Place, find_field, find_method}
use Rattle.class_lookup.specs.Access.{is_accessible_class}
use Rattle.class_lookup.specs.Selection.{overrides, select, special}

-- flags, name and descriptor
abbrev pub Declaration : Type 0
Declaration = ℕ × List ℕ × List ℕ

-- a class's name, then its superclass's, then its superinterfaces', each with its Class entry behind it
abbrev pub class_entries : List (List ℕ) → List Entry
class_entries names = flat_map (λ e. entries.Utf8 e.1 ∷ entries.Class (2 * e.0 + 1) ∷ []) (enumerate_from 0 names)

abbrev pub member_entries : List Declaration → List Entry
member_entries ms = flat_map (λ m. entries.Utf8 m.1 ∷ entries.Utf8 m.2 ∷ []) ms

-- the members whose names and descriptors begin at an index
abbrev pub members_from : (index : ℕ) → List Declaration → List Member
members_from index ms = map (λ e. record { flags = e.1.0; name = index + 2 * e.0; descriptor = index + 2 * e.0 + 1; attributes = [] }) (enumerate_from 0 ms)

-- the superclass comes first
abbrev pub superclass_index : List (List ℕ) → ℕ
superclass_index [] = 0
superclass_index (name ∷ names) = 4

abbrev pub superinterface_indexes : List (List ℕ) → List ℕ
superinterface_indexes [] = []
superinterface_indexes (name ∷ names) = map (λ e. 2 * e.0 + 2) (enumerate_from 2 names)

abbrev pub class_of : (flags : ℕ) → (supers : List (List ℕ)) → (name : List ℕ) → (fields methods : List Declaration) → ClassFile
class_of flags supers name fields methods = record {
  minor = 0;
  major = 52;
  pool = class_entries (name ∷ supers) ++ (member_entries fields ++ member_entries methods);
  flags = flags;
  this_class = 2;
  super_class = superclass_index supers;
  interfaces = superinterface_indexes supers;
  fields = members_from (2 * length (name ∷ supers) + 1) fields;
  methods = members_from (2 * length (name ∷ supers) + 2 * length fields + 1) methods;
  attributes = [];
}

abbrev pub worked_classes : List ClassFile
worked_classes =
    -- 0
    class_of 33 ([]) (codes "java/lang/Object")
    ([])
    ((1, codes "<init>", codes "()V") ∷ [])
    -- 1
    ∷ class_of 33 (codes "java/lang/Object" ∷ []) (codes "p/A")
    ((0, codes "x", codes "I") ∷ (12, codes "s", codes "I") ∷ [])
    ((1, codes "<init>", codes "()V") ∷ (0, codes "f", codes "()V") ∷ (1, codes "g", codes "()V") ∷ (2, codes "h", codes "()V") ∷ (9, codes "st", codes "()V")
    ∷ (4, codes "t", codes "()V") ∷ [])
    -- 2
    ∷ class_of 33 (codes "p/A" ∷ []) (codes "q/B")
    ((1, codes "x", codes "I") ∷ [])
    ((0, codes "f", codes "()V") ∷ (1, codes "g", codes "()V") ∷ (1, codes "h", codes "()V") ∷ [])
    -- 3
    ∷ class_of 33 (codes "q/B" ∷ []) (codes "p/C")
    ([])
    ((0, codes "f", codes "()V") ∷ (4, codes "t", codes "()V") ∷ [])
    -- 4
    ∷ class_of 33 (codes "p/C" ∷ []) (codes "q/D")
    ((2, codes "x", codes "J") ∷ [])
    ((1, codes "f", codes "()V") ∷ [])
    -- 5
    ∷ class_of 33 (codes "p/A" ∷ []) (codes "p/E")
    ([])
    ((1, codes "f", codes "()V") ∷ [])
    -- 6
    ∷ class_of 33 (codes "p/E" ∷ []) (codes "q/F")
    ([])
    ((1, codes "f", codes "()V") ∷ [])
    -- 7
    ∷ class_of 1537 (codes "java/lang/Object" ∷ []) (codes "r/I")
    ((25, codes "c", codes "I") ∷ [])
    ((1025, codes "k", codes "()V") ∷ [])
    -- 8
    ∷ class_of 1537 (codes "java/lang/Object" ∷ codes "r/I" ∷ []) (codes "r/J")
    ([])
    ((1025, codes "k", codes "()V") ∷ (1025, codes "l", codes "()V") ∷ [])
    -- 9
    ∷ class_of 1536 (codes "java/lang/Object" ∷ codes "r/I" ∷ []) (codes "r/K")
    ((25, codes "c", codes "I") ∷ [])
    ((1025, codes "l", codes "()V") ∷ [])
    -- 10
    ∷ class_of 1057 (codes "p/A" ∷ codes "r/J" ∷ []) (codes "r/G")
    ([])
    ((1, codes "<init>", codes "()V") ∷ [])
    -- 11
    ∷ class_of 33 (codes "r/G" ∷ codes "r/K" ∷ []) (codes "r/H")
    ([])
    ((1, codes "k", codes "()V") ∷ (1, codes "l", codes "()V") ∷ [])
    -- 12
    ∷ class_of 32 (codes "q/F" ∷ []) (codes "q/L")
    ([])
    ((2, codes "g", codes "()V") ∷ (1, codes "st", codes "()V") ∷ [])
    -- 13
    ∷ class_of 33 (codes "p/E" ∷ []) (codes "p/M")
    ([])
    ((9, codes "f", codes "()V") ∷ [])
    -- 14
    ∷ class_of 33 (codes "p/M" ∷ codes "r/I" ∷ []) (codes "r/N")
    ([])
    ((1, codes "f", codes "()V") ∷ [])
    ∷ []

abbrev pub named : List ℕ → List ℕ → Signature
named name descriptor = record { name = name; descriptor = descriptor }

abbrev pub void : List ℕ → Signature
void name = named name (codes "()V")

abbrev pub method_found : (class : ℕ) → (name : List ℕ) → Option Place
method_found c name = find_method worked_classes c (void name)

abbrev pub field_found : (class : ℕ) → (name descriptor : List ℕ) → Option Place
field_found c name descriptor = find_field worked_classes c (named name descriptor)

-- fields: one that hides another, one of an interface before that of the superclass, one of a superclass, one with another type, none
abbrev pub Fields : Type 0
Fields =
    (field_found 2 (codes "x") (codes "I") ≡ Some (2, 0))
    × (field_found 3 (codes "x") (codes "I") ≡ Some (2, 0))
    × (field_found 4 (codes "x") (codes "I") ≡ Some (2, 0))
    × (field_found 4 (codes "x") (codes "J") ≡ Some (4, 0))
    × (field_found 6 (codes "x") (codes "I") ≡ Some (1, 0))
    × (field_found 8 (codes "c") (codes "I") ≡ Some (7, 0))
    × (field_found 11 (codes "c") (codes "I") ≡ Some (9, 0))
    × (field_found 10 (codes "c") (codes "I") ≡ Some (7, 0))
    × (field_found 11 (codes "s") (codes "I") ≡ Some (1, 1))
    × (field_found 7 (codes "x") (codes "I") ≡ None)

-- methods of classes: declared, of a superclass, of a superinterface behind all superclasses, an initialization method in its own class alone
abbrev pub MethodsOfClasses : Type 0
MethodsOfClasses =
    (method_found 2 (codes "f") ≡ Some (2, 0))
    × (method_found 3 (codes "g") ≡ Some (2, 1))
    × (method_found 12 (codes "f") ≡ Some (6, 0))
    × (method_found 12 (codes "g") ≡ Some (12, 0))
    × (method_found 12 (codes "st") ≡ Some (12, 1))
    × (method_found 6 (codes "st") ≡ Some (1, 4))
    × (method_found 10 (codes "k") ≡ Some (8, 0))
    × (method_found 10 (codes "l") ≡ Some (8, 1))
    × (method_found 11 (codes "k") ≡ Some (11, 0))
    × (method_found 14 (codes "k") ≡ Some (7, 0))
    × (method_found 10 (codes "<init>") ≡ Some (10, 0))
    × (method_found 2 (codes "<init>") ≡ None)
    × (method_found 1 (codes "k") ≡ None)

-- methods of interfaces: declared, of a superinterface, not those of java/lang/Object
abbrev pub MethodsOfInterfaces : Type 0
MethodsOfInterfaces =
    (method_found 8 (codes "k") ≡ Some (8, 0))
    × (method_found 9 (codes "k") ≡ Some (7, 0))
    × (method_found 9 (codes "l") ≡ Some (9, 0))
    × (method_found 7 (codes "l") ≡ None)
    × (method_found 8 (codes "<init>") ≡ None)

-- package-private methods are overridden within their package, also by one below another package
abbrev pub WithinPackages : Type 0
WithinPackages =
    (overrides worked_classes (2, 0) (1, 1) ≡ false)
    × (overrides worked_classes (3, 0) (1, 1) ≡ true)
    × (overrides worked_classes (3, 0) (2, 0) ≡ false)
    × (overrides worked_classes (4, 0) (2, 0) ≡ true)
    × (overrides worked_classes (4, 0) (1, 1) ≡ false)
    × (overrides worked_classes (4, 0) (3, 0) ≡ false)

-- and elsewhere through a public one between
abbrev pub ThroughPackages : Type 0
ThroughPackages =
    (overrides worked_classes (5, 0) (1, 1) ≡ true)
    × (overrides worked_classes (6, 0) (1, 1) ≡ true)
    × (overrides worked_classes (13, 0) (5, 0) ≡ false)
    × (overrides worked_classes (14, 0) (5, 0) ≡ true)
    × (overrides worked_classes (14, 0) (1, 1) ≡ true)

-- private and static methods override nothing, and aren't overridden
abbrev pub WithoutOverriding : Type 0
WithoutOverriding =
    (overrides worked_classes (2, 2) (1, 3) ≡ false)
    × (overrides worked_classes (12, 0) (1, 2) ≡ false)
    × (overrides worked_classes (12, 1) (1, 4) ≡ false)
    × (overrides worked_classes (2, 1) (1, 2) ≡ true)
    × (overrides worked_classes (1, 2) (1, 2) ≡ false)

-- selected for a receiver
abbrev pub Selected : Type 0
Selected =
    (select worked_classes 4 (1, 1) ≡ Some (3, 0))
    × (select worked_classes 4 (2, 0) ≡ Some (4, 0))
    × (select worked_classes 4 (3, 0) ≡ Some (3, 0))
    × (select worked_classes 2 (1, 1) ≡ Some (1, 1))
    × (select worked_classes 12 (1, 1) ≡ Some (6, 0))
    × (select worked_classes 13 (1, 1) ≡ Some (5, 0))
    × (select worked_classes 14 (1, 1) ≡ Some (14, 0))
    × (select worked_classes 12 (1, 2) ≡ Some (1, 2))
    × (select worked_classes 4 (1, 2) ≡ Some (2, 1))
    × (select worked_classes 4 (1, 3) ≡ Some (1, 3))
    × (select worked_classes 4 (1, 5) ≡ Some (3, 1))
    × (select worked_classes 1 (2, 1) ≡ None)

-- for a method of an interface the public instance method of its name
abbrev pub SelectedForInterfaces : Type 0
SelectedForInterfaces =
    (select worked_classes 11 (7, 0) ≡ Some (11, 0))
    × (select worked_classes 11 (8, 1) ≡ Some (11, 1))
    × (select worked_classes 10 (7, 0) ≡ None)

-- by invokespecial: from the direct superclass, where the method is named through a superclass
abbrev pub CalledSpecially : Type 0
CalledSpecially =
    (special worked_classes 4 1 (1, 2) ≡ Some (2, 1))
    × (special worked_classes 4 4 (2, 1) ≡ Some (2, 1))
    × (special worked_classes 12 1 (1, 1) ≡ Some (6, 0))
    × (special worked_classes 10 1 (1, 0) ≡ Some (1, 0))

-- the hierarchy
abbrev pub Hierarchies : Type 0
Hierarchies =
    (extends worked_classes 11 7 ≡ true)
    × (extends worked_classes 11 0 ≡ true)
    × (extends worked_classes 8 0 ≡ true)
    × (extends worked_classes 7 8 ≡ false)
    × (extends worked_classes 1 7 ≡ false)
    × (extends worked_classes 4 1 ≡ true)
    × (is_accessible_class worked_classes 4 12 ≡ true)
    × (is_accessible_class worked_classes 1 12 ≡ false)
    × (is_accessible_class worked_classes 1 8 ≡ true)

pub record WorkedLookups : Type 0 where
  pub fields : Fields
  pub methods_of_classes : MethodsOfClasses
  pub methods_of_interfaces : MethodsOfInterfaces
  pub within_packages : WithinPackages
  pub through_packages : ThroughPackages
  pub without_overriding : WithoutOverriding
  pub selected : Selected
  pub selected_for_interfaces : SelectedForInterfaces
  pub called_specially : CalledSpecially
  pub hierarchy : Hierarchies
