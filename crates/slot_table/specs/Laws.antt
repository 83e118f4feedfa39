-- What the laws of tables and executives say.
use Rattle.std.specs.Prelude.{◌≡◌, ℕ, ◌⊎◌, List, [], ◌∷◌, ◌++◌, length, take, drop, slice_get, Some, IsSomeAnd}
use Rattle.std.specs.List.{flat_map}
use Rattle.class_pool.specs.Spelling.{u2}
use Rattle.class_pool.specs.declared.class.Code.{Code as CodeParts}
use Rattle.class_pool.specs.declared.class.Member.{Member}
use Rattle.class_pool.specs.Found.{code_of}
use Rattle.class_rules.specs.Grammar.{IsClass}
use Rattle.class_making.specs.Making.{index_of}
use Rattle.class_making.specs.Plans.{items_of}
use Rattle.class_making.specs.Laws.{HasBytes, SaysPlan}
use Rattle.slot_table.specs.declared.slot.Slot.{Slot}
use Rattle.slot_table.specs.declared.table.TableFault.{TableFault}
use Rattle.slot_table.specs.declared.table.TableFault.TheVariants.{NoMemory}
use Rattle.slot_table.specs.Slots.{IsTable}
use Rattle.slot_table.specs.Grammar.{IsTableRead, IsTableRefused}
use Rattle.slot_table.specs.Executive.{call_place, front_bytes, back_bytes, method_of, executive_plan, executive_of}

-- ---- texts

-- A text gives one table.
abbrev pub GivesOne : Type 0
GivesOne = (text : List ℕ) (a b : List Slot) → IsTableRead text a → IsTableRead text b → a ≡ b

-- A text that gives a table is not refused.
abbrev pub ReadIsNotRefused : Type 0
ReadIsNotRefused = (text : List ℕ) (slots : List Slot) (fault : TableFault) → IsTableRead text slots → IsTableRefused text fault → fault ≡ NoMemory

-- A text is refused for one cause.
abbrev pub OneCause : Type 0
OneCause = (text : List ℕ) (a b : TableFault) → IsTableRefused text a → IsTableRefused text b → (a ≡ NoMemory) ⊎ (b ≡ NoMemory) ⊎ (a ≡ b)

-- What a text gives is a table.
abbrev pub ReadIsATable : Type 0
ReadIsATable = (text : List ℕ) (slots : List Slot) → IsTableRead text slots → IsTable slots

-- ---- the executive

-- It is a class file that says what the plan says, and its code is bytes.
abbrev pub ExecutiveIsAClass : Type 0
ExecutiveIsAClass = (slots : List Slot) (rounds : ℕ) → IsTable slots
    → IsClass (executive_of slots rounds) × HasBytes (executive_of slots rounds) × SaysPlan (executive_plan slots rounds) (executive_of slots rounds)

-- the index of the slot's method in the pool of the executive
abbrev pub index_in : List Slot → (rounds : ℕ) → Slot → ℕ
index_in slots rounds s = index_of (items_of (executive_plan slots rounds)) (method_of s)

-- invokestatic of the slot's method
abbrev pub call_bytes : List Slot → (rounds : ℕ) → Slot → List ℕ
call_bytes slots rounds s = 0xB8 ∷ u2 (index_in slots rounds s)

-- The code of main, where the calls of the slots stand in it, and its limits.
pub record IsMainCode (slots : List Slot) (rounds : ℕ) (k : CodeParts) : Type 0 where
  pub code : k.code ≡ front_bytes rounds (length slots) ++ flat_map (call_bytes slots rounds) slots ++ back_bytes (length slots)
  pub calls : (number : ℕ) (s : Slot) → slice_get slots number ≡ Some s → take 3 (drop (call_place number) k.code) ≡ call_bytes slots rounds s
  pub max_stack : k.max_stack ≡ 2
  pub max_locals : k.max_locals ≡ 2
  pub handlers : k.handlers ≡ []

-- The executive has one method, main, which has this code.
abbrev pub ExecutiveCallsSlots : Type 0
ExecutiveCallsSlots = (slots : List Slot) (rounds : ℕ)
    → (main : Member) × ((executive_of slots rounds).methods ≡ main ∷ []) × IsSomeAnd (code_of main) (IsMainCode slots rounds)
