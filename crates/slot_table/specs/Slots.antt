-- The slots of a cyclic executive: the static methods that it calls in turn, and how many cycles each call may take.
use Rattle.std.specs.Prelude.{ℕ, ◌<◌, ◌≤◌, ◌^◌, List, ◌++◌, length, codes}
use Rattle.std.specs.List.{AllByRecursion}
use Rattle.class_pool.specs.Utf8.{utf8_bytes}
use Rattle.class_rules.specs.Rules.{IsClassName, IsMethodName}
use Rattle.class_making.specs.Right.{IsPoolText}
use Rattle.name_laws.specs.Written.{written}
use Rattle.slot_table.specs.declared.slot.Slot.{Slot}

abbrev pub length_of : Slot → ℕ
length_of s = s.length

-- Class.name()V, in the bytes of the class's name and of the method's (4.4.7)
abbrev pub name_text : Slot → List ℕ
name_text s = utf8_bytes s.class ++ (codes "." ++ (utf8_bytes s.method ++ codes "()V"))

-- as it is written
abbrev pub slot_word : Slot → List ℕ
slot_word s = written (name_text s)

-- The name of a class (4.2.1), that of a method (4.2.2), each of which a pool can hold, and a length of 64 bits that isn't 0.
pub record IsRightSlot (s : Slot) : Type 0 where
  pub class : IsClassName s.class
  pub class_fits : IsPoolText s.class
  pub method : IsMethodName s.method
  pub method_fits : IsPoolText s.method
  pub some : 1 ≤ s.length
  pub fits : s.length < 2 ^ 64

abbrev pub AreRightSlots : List Slot → Type 0
AreRightSlots slots = AllByRecursion IsRightSlot slots

-- 1 to 64 right ones
pub record IsTable (slots : List Slot) : Type 0 where
  pub some : 1 ≤ length slots
  pub few : length slots ≤ 64
  pub right : AreRightSlots slots
