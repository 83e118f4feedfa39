-- The text of a table of slots, line by line.
use Rattle.std.specs.Prelude.{◌≡◌, ℕ, suc, ◌≤◌, List, [], ◌∷◌, ◌++◌, length, codes, decimal, Option, Some, None}
use Rattle.std.specs.Option.{option_to_list}
use Rattle.ascii_text.specs.Line.{lines_of}
use Rattle.base.specs.declared.fault.FormatFault.{FormatFault}
use Rattle.base.specs.declared.fault.FormatFault.TheVariants as formats
use Rattle.slot_table.specs.declared.slot.Slot.{Slot}
use Rattle.slot_table.specs.declared.table.TableFault.{TableFault}
use Rattle.slot_table.specs.declared.table.TableFault.TheVariants.{Line, Count, NoMemory}
use Rattle.slot_table.specs.Slots.{slot_word, IsRightSlot}

-- ---- a line

-- empty, or a remark, which begins with #
abbrev pub IsSilentLine : (line : List ℕ) → Type 0
IsSilentLine [] = Unit {0}
IsSilentLine (byte ∷ bytes) = byte ≡ 35

-- `slot NAME LENGTH`
abbrev pub slot_line : Slot → List ℕ
slot_line s = codes "slot " ++ (slot_word s ++ (codes " " ++ decimal s.length))

-- the line is that of a right slot
pub record IsSlotLine (line : List ℕ) (s : Slot) : Type 0 where
  pub line_is : line ≡ slot_line s
  pub right : IsRightSlot s

-- what a line says: nothing, or a slot
abbrev pub SaysSlot : (line : List ℕ) → Option Slot → Type 0
SaysSlot line None = IsSilentLine line
SaysSlot line (Some s) = IsSlotLine line s

-- of no line of the grammar
abbrev pub IsNoSlotLine : (line : List ℕ) → Type 0
IsNoSlotLine line = (¬ IsSilentLine line) × ((s : Slot) → ¬ IsSlotLine line s)

-- ---- the text

-- the slots that lines give, in their order
abbrev pub GiveSlots : (lines : List (List ℕ)) → List Slot → Type 0
GiveSlots [] slots = slots ≡ []
GiveSlots (line ∷ lines) slots = (said : Option Slot) × (rest : List Slot) × (slots ≡ option_to_list said ++ rest) × SaysSlot line said × GiveSlots lines rest

pub record IsSlotCount (slots : ℕ) : Type 0 where
  pub some : 1 ≤ slots
  pub few : slots ≤ 64

-- the slots that a text gives, of which there are 1 to 64
pub record IsTableRead (text : List ℕ) (slots : List Slot) : Type 0 where
  pub given : GiveSlots (lines_of text) slots
  pub count : IsSlotCount (length slots)

-- The lines before this one, whose number counts from 1, are of the grammar.
pub record IsTableReadTo (text : List ℕ) (number : ℕ) : Type 0 where
  pub before : List (List ℕ)
  pub line : List ℕ
  pub after : List (List ℕ)
  pub lines : lines_of text ≡ before ++ line ∷ after
  pub number_is : number ≡ suc (length before)
  pub slots : List Slot
  pub given : GiveSlots before slots

-- All lines are of the grammar, and give so many slots, which aren't 1 to 64.
pub record IsMiscounted (text : List ℕ) (count : ℕ) : Type 0 where
  pub slots : List Slot
  pub given : GiveSlots (lines_of text) slots
  pub count_is : count ≡ length slots
  pub other : ¬ IsSlotCount count

-- the cause of a fault: the first line that is none of the grammar, or else the number of slots
abbrev pub IsTableRefused : (text : List ℕ) → TableFault → Type 0
IsTableRefused text (Line n) = (r : IsTableReadTo text n) × IsNoSlotLine r.line
IsTableRefused text (Count n) = IsMiscounted text n
IsTableRefused text NoMemory = Unit {0}

-- ---- in parts

-- what holds where bytes are not of a format, and memory isn't what lacked
abbrev pub OnBad : FormatFault → Type 0 → Type 0
OnBad formats.Bad P = P
OnBad formats.NoMemory P = Unit {0}

-- a line's slot, if it says one, behind these
pub record Adds (line : List ℕ) (old new : List Slot) : Type 0 where
  pub said : Option Slot
  pub says : SaysSlot line said
  pub new_is : new ≡ old ++ option_to_list said

abbrev pub SlotLineFails : (line : List ℕ) → (number : ℕ) → TableFault → Type 0
SlotLineFails line number (Line n) = (n ≡ number) × IsNoSlotLine line
SlotLineFails line number (Count n) = ⊥
SlotLineFails line number NoMemory = Unit {0}

abbrev pub CountFails : (count : ℕ) → TableFault → Type 0
CountFails count (Line n) = ⊥
CountFails count (Count n) = (n ≡ count) × (¬ IsSlotCount count)
CountFails count NoMemory = ⊥
