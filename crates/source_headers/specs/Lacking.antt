-- Bounds that stray, by what is gathered, and the text where none does.
use Rattle.std.specs.Prelude.{◌≡◌, ℕ, ◌++◌, List, ◌∷◌, Contains}
use Rattle.std.specs.List.{concat}
use Rattle.class_pool.specs.declared.class.ClassFile.{ClassFile}
use Rattle.loop_rules.specs.declared.found.FoundLoop.{FoundLoop}
use Rattle.bound_texts.specs.Sources.Notes.{Subject, Note}
use Rattle.source_headers.specs.declared.fault.HeaderFault.{HeaderFault}
use Rattle.source_headers.specs.declared.fault.HeaderFault.TheVariants.{BadLine, TwiceLine, Stray, NoMemory}
use Rattle.source_headers.specs.declared.gathering.Gathered.{Gathered}
use Rattle.source_headers.specs.Files.{AreMethodTexts}
use Rattle.name_laws.specs.Written.{written_name}
use Rattle.source_headers.specs.Straying.{IsStray, IsFirstStray, subject_text}
use Rattle.source_headers.specs.Gathered.{IsLacking}

-- ---- a refusal

-- it names the subject, or there was no memory
abbrev pub NamesSubject : Subject → HeaderFault → Type 0
NamesSubject s (Stray text) = text.items ≡ subject_text s
NamesSubject s NoMemory = Unit {0}
NamesSubject s (BadLine n) = ⊥
NamesSubject s (TwiceLine n) = ⊥

-- the first of the notes that strays by what is gathered
pub record IsFirstLacking (g : Gathered) (notes : List Note) (text : List ℕ) : Type 0 where
  pub before : List Note
  pub note : Note
  pub after : List Note
  pub parts : notes ≡ before ++ note ∷ after
  pub lacking : IsLacking g note.subject
  pub first : (n : Note) → Contains before n → ¬ IsLacking g n.subject
  pub text_is : text ≡ subject_text note.subject

abbrev pub IsLackingFault : Gathered → List Note → HeaderFault → Type 0
IsLackingFault g notes (Stray text) = IsFirstLacking g notes text.items
IsLackingFault g notes NoMemory = Unit {0}
IsLackingFault g notes (BadLine n) = ⊥
IsLackingFault g notes (TwiceLine n) = ⊥

-- the same of the program
abbrev pub IsStrayFault : List ClassFile → List Note → HeaderFault → Type 0
IsStrayFault cs notes (Stray text) = IsFirstStray cs (written_name cs) notes text.items
IsStrayFault cs notes NoMemory = Unit {0}
IsStrayFault cs notes (BadLine n) = ⊥
IsStrayFault cs notes (TwiceLine n) = ⊥

-- ---- the text

-- none of the notes strays by what is gathered
abbrev pub AreUsedBy : Gathered → List Note → Type 0
AreUsedBy g notes = (n : Note) → Contains notes n → ¬ IsLacking g n.subject

-- The text is that of the program's headers by what is found and what is said, of which nothing strays.
pub record IsFileBy (cs : List ClassFile) (notes : List Note) (found : List FoundLoop) (text : List ℕ) : Type 0 where
  pub used : (n : Note) → Contains notes n → ¬ IsStray cs (written_name cs) n.subject
  pub texts : List (List ℕ)
  pub methods : AreMethodTexts cs notes found texts
  pub text_is : text ≡ concat texts
