-- Bounds that are said of what heads no loop.
use Rattle.std.specs.Prelude.{◌≡◌, ◌≢◌, ℕ, ◌++◌, List, [], ◌∷◌, Contains, IsSome, Some, codes, decimal}
use Rattle.class_pool.specs.declared.class.ClassFile.{ClassFile}
use Rattle.program_tables.specs.Resolved.{resolved}
use Rattle.bytecode_model.specs.Program.{Program, body_of}
use Rattle.bound_causes.specs.Headers.{AreHeaderPlaces}
use Rattle.bound_rules.specs.Bounding.{IsLeftWith}
use Rattle.bound_report.specs.Contents.Rows.{IsCodePlace}
use Rattle.bound_texts.specs.Sources.Notes.{Subject, AtLine, AtPlace, Note}
use Rattle.source_places.specs.Methods.Sources.{IsFileOf, source_at}

-- the method has code, and isn't the one that is run first
abbrev pub MayBeBounded : Program → (method : ℕ) → Type 0
MayBeBounded P m = IsSome (body_of P m) × (m ≢ P.boot)

-- and each of its loops has one entry: the reduction of its graph leaves no node
abbrev pub HasSingleEntries : Program → (method : ℕ) → Type 0
HasSingleEntries P m = MayBeBounded P m × IsLeftWith P m []

-- the instruction at the place heads a loop of such a method
pub record IsHeaderAt (P : Program) (m place : ℕ) : Type 0 where
  pub bounded : MayBeBounded P m
  pub places : List ℕ
  pub single : IsLeftWith P m []
  pub are : AreHeaderPlaces P m places
  pub among : Contains places place

-- the place is within the code of a method of which the reduction leaves some nodes: some of its loops have several entries
pub record IsWithinIrreducible (P : Program) (m place : ℕ) : Type 0 where
  pub bounded : MayBeBounded P m
  pub within : IsCodePlace P m place
  pub nodes : List ℕ
  pub left : IsLeftWith P m nodes
  pub some : nodes ≢ []

-- A line of a file of the program, or a place of a method whose loops have one entry each, at which no loop is headed. What is said of other files and methods
-- isn't used, and strays nowhere; nor does what is said of a line of a method whose loops have several entries.
abbrev pub IsStray : List ClassFile → (name : ℕ → List ℕ) → Subject → Type 0
IsStray cs name (AtLine file line) =
    IsFileOf cs file × ((m p : ℕ) → IsHeaderAt (resolved cs) m p → source_at cs m p ≢ Some (file, line))
    × ((m p : ℕ) → IsWithinIrreducible (resolved cs) m p → source_at cs m p ≢ Some (file, line))
IsStray cs name (AtPlace method pc) =
    ((m : ℕ) × HasSingleEntries (resolved cs) m × (name m ≡ method)) × ((m : ℕ) → IsHeaderAt (resolved cs) m pc → name m ≢ method)

-- as a refusal names it
abbrev pub subject_text : Subject → List ℕ
subject_text (AtLine file line) = file ++ (codes ":" ++ decimal line)
subject_text (AtPlace method pc) = method ++ (codes " " ++ decimal pc)

-- the first of the notes that strays
pub record IsFirstStray (cs : List ClassFile) (name : ℕ → List ℕ) (notes : List Note) (text : List ℕ) : Type 0 where
  pub before : List Note
  pub note : Note
  pub after : List Note
  pub parts : notes ≡ before ++ note ∷ after
  pub stray : IsStray cs name note.subject
  pub first : (n : Note) → Contains before n → ¬ IsStray cs name n.subject
  pub text_is : text ≡ subject_text note.subject
