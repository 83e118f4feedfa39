-- Rows: a line of the text, and bytes of the executives of some tables.
use Rattle.std.specs.Prelude.{◌≡◌, [], ◌∷◌, codes}
use Rattle.slot_table.specs.declared.slot.Slot.{Slot}
use Rattle.slot_table.specs.Grammar.{slot_line}
use Rattle.slot_table.specs.Executive.{front_bytes, back_bytes, frames_bytes}

-- the static method e of the class A, which may take 100,000 cycles
abbrev pub small_slot : Slot
small_slot = record { class = codes "A"; method = codes "e"; length = 100000 }

pub record ExecutiveRows : Type 0 where
  pub line : slot_line small_slot ≡ codes "slot A.e()V 100000"
  -- one slot, three rounds: the return stands at place 18
  pub front : front_bytes 3 1 ≡ 0x03 ∷ 0x3C ∷ 0x1B ∷ 0x11 ∷ 0x00 ∷ 0x03 ∷ 0xA2 ∷ 0x00 ∷ 0x0C ∷ []
  pub back : back_bytes 1 ≡ 0x84 ∷ 0x01 ∷ 0x01 ∷ 0xA7 ∷ 0xFF ∷ 0xF3 ∷ 0xB1 ∷ []
  pub frames : frames_bytes 1 ≡ 0x00 ∷ 0x02 ∷ 0xFC ∷ 0x00 ∷ 0x02 ∷ 0x01 ∷ 0x0F ∷ []
  -- the last number of slots with a short second frame, and the next one
  pub last_short : frames_bytes 17 ≡ 0x00 ∷ 0x02 ∷ 0xFC ∷ 0x00 ∷ 0x02 ∷ 0x01 ∷ 0x3F ∷ []
  pub first_long : frames_bytes 18 ≡ 0x00 ∷ 0x02 ∷ 0xFC ∷ 0x00 ∷ 0x02 ∷ 0x01 ∷ 0xFB ∷ 0x00 ∷ 0x42 ∷ []
  -- the most slots and rounds: the return stands at place 207
  pub most_front : front_bytes 32767 64 ≡ 0x03 ∷ 0x3C ∷ 0x1B ∷ 0x11 ∷ 0x7F ∷ 0xFF ∷ 0xA2 ∷ 0x00 ∷ 0xC9 ∷ []
  pub most_back : back_bytes 64 ≡ 0x84 ∷ 0x01 ∷ 0x01 ∷ 0xA7 ∷ 0xFF ∷ 0x36 ∷ 0xB1 ∷ []
