-- What is selected for receivers of each class, by the slots of the class.
use Rattle.std.specs.Prelude.{◌≡◌, ℕ, ◌<◌, ◌≤◌, true, false, Some, List, [], length, slice_get, slice_index_or, if◌then◌else◌}
use Rattle.class_pool.specs.declared.class.ClassFile.{ClassFile}
use Rattle.class_lookup.specs.Hierarchy.{is_interface, is_among}
use Rattle.class_lookup.specs.Lookup.{Place}
use Rattle.image_words.specs.Slots.{interface_methods}
use Rattle.class_selection.specs.declared.selected.Selected.{Selected}
use Rattle.class_selection.specs.Selecting.{IsSelected, IsSelectedAbove}

-- what is selected for receivers of the class, for each of these methods
pub record AreSelected (cs : List ClassFile) (c : ℕ) (methods : List Place) (row : List Selected) : Type 0 where
  pub long : length row ≡ length methods
  pub each : (i : ℕ) (a : Place) (s : Selected) → slice_get methods i ≡ Some a → slice_get row i ≡ Some s → IsSelected cs c a s

-- what is selected for receivers of its superclass, for the first of these methods; each other one is the class's own or an interface's
pub record AreSelectedAbove (cs : List ClassFile) (c : ℕ) (methods : List Place) (above : List Selected) : Type 0 where
  pub each : (i : ℕ) (a : Place) (s : Selected) → slice_get methods i ≡ Some a → slice_get above i ≡ Some s → IsSelectedAbove cs c a s
  pub others : (i : ℕ) (a : Place) → length above ≤ i → slice_get methods i ≡ Some a → is_interface cs a.0 ≡ false → a.0 ≡ c

-- the rows of the classes of an order, for these methods of each class
pub record AreRows (cs : List ClassFile) (methods : (class : ℕ) → List Place) (order : List ℕ) (rows : List (List Selected)) : Type 0 where
  pub long : length rows ≡ length cs
  pub each : (c : ℕ) → is_among order c ≡ true → AreSelected cs c (methods c) (slice_index_or rows c [])

-- the rows of all classes
pub record AreAllRows (cs : List ClassFile) (methods : (class : ℕ) → List Place) (rows : List (List Selected)) : Type 0 where
  pub long : length rows ≡ length cs
  pub each : (c : ℕ) → c < length cs → AreSelected cs c (methods c) (slice_index_or rows c [])

-- the methods of interfaces, for a class; an interface has no table of them
abbrev pub table_methods : List ClassFile → (class : ℕ) → List Place
table_methods cs c = if is_interface cs c then [] else interface_methods cs
