-- What the tables of slots say, by class.
use Rattle.std.specs.Prelude.{◌≡◌, ℕ, ◌+◌, true, List, [], ◌++◌, length, map, Option, Some, None, slice_get, slice_index_or, if◌then◌else◌}
use Rattle.std.specs.Option.{option_map_or}
use Rattle.std.specs.List.{filter, range_with_len}
use Rattle.class_pool.specs.declared.class.ClassFile.{ClassFile}
use Rattle.class_lookup.specs.Hierarchy.{superclass, is_among}
use Rattle.class_lookup.specs.Lookup.{Place}
use Rattle.image_words.specs.Signatures.{HasSignatures, AreFirst}
use Rattle.image_words.specs.Slots.{has_slot, slots}
use Rattle.image_words.specs.declared.class_slots.ClassSlots.{ClassSlots}
use Rattle.image_words.specs.declared.slots.Slots.{Slots}

-- the slots of the class's superclass
abbrev pub above_slots : List ClassFile → (class : ℕ) → List Place
above_slots cs c = option_map_or (slots cs) (superclass cs c) []

-- those for the first so many methods of the class
abbrev pub first_slots : List ClassFile → (class count : ℕ) → List Place
first_slots cs c n = filter (has_slot cs) (map (λ j. (c, j)) (range_with_len 0 n))

-- the slot that is made for a method of a class
abbrev pub own_slot : List ClassFile → (method : Place) → Option ℕ
own_slot cs m = if has_slot cs m then Some (length (above_slots cs m.0) + length (first_slots cs m.0 m.1)) else None

-- the slots of a class as far as they are made, behind those of its superclass
pub record AreSoFar (cs : List ClassFile) (signatures : List (ℕ × ℕ)) (above : List Place) (s : ClassSlots) : Type 0 where
  pub start : s.start ≡ length above
  pub first : AreFirst cs signatures s.first.items (above ++ s.added.items)

pub record AreClassSlots (cs : List ClassFile) (signatures : List (ℕ × ℕ)) (c : ℕ) (s : ClassSlots) : Type 0 where
  pub slots : slots cs c ≡ above_slots cs c ++ s.added.items
  pub own : (i : ℕ) → slice_index_or s.own.items i None ≡ own_slot cs (c, i)
  pub so_far : AreSoFar cs signatures (above_slots cs c) s

-- the table has those of the class's superclass
pub record AreAbove (cs : List ClassFile) (signatures : List (ℕ × ℕ)) (c : ℕ) (table : List ClassSlots) : Type 0 where
  pub long : length table ≡ length cs
  pub above : (d : ℕ) (s : ClassSlots) → superclass cs c ≡ Some d → slice_get table d ≡ Some s → AreClassSlots cs signatures d s

-- the table has those of each class of an order
pub record AreMade (cs : List ClassFile) (signatures : List (ℕ × ℕ)) (order : List ℕ) (table : List ClassSlots) : Type 0 where
  pub long : length table ≡ length cs
  pub each : (c : ℕ) (s : ClassSlots) → is_among order c ≡ true → slice_get table c ≡ Some s → AreClassSlots cs signatures c s

pub record AreSlots (cs : List ClassFile) (s : Slots) : Type 0 where
  pub signatures : HasSignatures cs s.signatures
  pub long : length s.classes.items ≡ length cs
  pub each : (c : ℕ) (t : ClassSlots) → slice_get s.classes.items c ≡ Some t → AreClassSlots cs s.signatures c t
