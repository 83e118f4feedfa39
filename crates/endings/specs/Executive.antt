-- What `plan` and `cycle` link: class files, and behind them the executive of a table of slots.
use Rattle.std.specs.Prelude.{◌≡◌, ℕ, ◌++◌, ◌⊎◌, List, [], ◌∷◌, codes, Vec}
use Rattle.std.specs.declared.alloc.Global.{Global}
use Rattle.class_pool.specs.ClassSpelling.{class_bytes}
use Rattle.slot_table.specs.declared.slot.Slot.{Slot}
use Rattle.slot_table.specs.declared.table.TableFault.{TableFault}
use Rattle.slot_table.specs.declared.table.TableFault.TheVariants as tables
use Rattle.slot_table.specs.Executive.{executive_of}
use Rattle.slot_table.specs.Grammar.{IsTableRead, IsTableRefused}
use Rattle.jopizer.specs.Linked.{Parts, IsLinked}
use Rattle.endings.specs.declared.outcome.Refusal.TheVariants.{BadTable, SlotCount}
use Rattle.endings.specs.declared.outcome.Ending.{Ending}
use Rattle.endings.specs.declared.outcome.Ending.TheVariants.{Refused, NoMemory}
use Rattle.endings.specs.Linking.{LinkFault}

-- ---- the table

-- the ending that says why a text gives no table
abbrev pub table_ending : TableFault → Ending
table_ending (tables.Line line) = Refused (BadTable line)
table_ending (tables.Count count) = Refused (SlotCount count)
table_ending tables.NoMemory = NoMemory

-- ---- the files

abbrev pub executive_bytes : List Slot → (rounds : ℕ) → List ℕ
executive_bytes slots rounds = class_bytes (executive_of slots rounds)

-- the name of the executive's class, whose main is run
abbrev pub executive_class : List ℕ
executive_class = codes "Cyclic"

abbrev pub with_executive : List Slot → (rounds : ℕ) → (files : List (List ℕ)) → List (List ℕ)
with_executive slots rounds files = files ++ executive_bytes slots rounds ∷ []

-- the file of the executive was put behind the others
pub record PutsBehind (slots : List Slot) (rounds : ℕ) (old new : List (Vec ℕ Global)) : Type 0 where
  pub file : Vec ℕ Global
  pub bytes : file.items ≡ executive_bytes slots rounds
  pub new_is : new ≡ old ++ file ∷ []

-- these files are linked to it, with the executive's class as the main class
pub record IsLinkedOf (files : List (List ℕ)) (l : Parts) : Type 0 where
  pub is_linked : IsLinked l
  pub its_files : l.files ≡ files
  pub its_main : l.main ≡ executive_class

-- so are these files with the executive
abbrev pub IsLinkedWith : List Slot → (rounds : ℕ) → (files : List (List ℕ)) → Parts → Type 0
IsLinkedWith slots rounds files l = IsLinkedOf (with_executive slots rounds files) l

-- ---- why nothing is linked

-- the text gives no table, and the ending says why
pub record EndsUntabled (table_text : List ℕ) (ending : Ending) : Type 0 where
  pub fault : TableFault
  pub is : IsTableRefused table_text fault
  pub says : ending ≡ table_ending fault

-- the text gives these slots, and the files aren't linked with the executive
pub record EndsUnlinked (table_text : List ℕ) (rounds : ℕ) (files : List (List ℕ)) (ending : Ending) : Type 0 where
  pub slots : List Slot
  pub read : IsTableRead table_text slots
  pub fault : LinkFault (with_executive slots rounds files) executive_class ending

abbrev pub EndsUnready : (table_text : List ℕ) → (rounds : ℕ) → (files : List (List ℕ)) → Ending → Type 0
EndsUnready table_text rounds files ending = EndsUntabled table_text ending ⊎ EndsUnlinked table_text rounds files ending

-- the text gives these slots, and this is linked of the files with their executive
pub record IsReadied (table_text : List ℕ) (rounds : ℕ) (files : List (List ℕ)) (slots : List Slot) (l : Parts) : Type 0 where
  pub read : IsTableRead table_text slots
  pub linked : IsLinkedWith slots rounds files l
