-- The text of bounds, line by line.
use Rattle.std.specs.Prelude.{◌≡◌, ℕ, suc, ◌==◌, ◌<◌, List, [], ◌∷◌, ◌++◌, length, codes, IsSome}
use Rattle.std.specs.List.{slice_split}
use Rattle.ascii_text.specs.Line.{lines_of}
use Rattle.bound_texts.specs.Loops.Grammar.{IsLoopLine}
use Rattle.bound_texts.specs.Loops.Lines.{IsNumber, IsSilent}
use Rattle.bound_texts.specs.declared.sources.SourceFault.{SourceFault}
use Rattle.bound_texts.specs.declared.sources.SourceFault.TheVariants.{Line, Twice, NoMemory}
use Rattle.bound_texts.specs.Sources.Notes.{Subject, AtLine, AtPlace, Note, noted_bound, AreOfDifferentSubjects}

-- ---- a line

-- `FILE:LINE`; a line's number has no colon, so it stands behind the last one
pub record IsSource (text : List ℕ) (file : List ℕ) (line : ℕ) : Type 0 where
  pub digits : List ℕ
  pub text_is : text ≡ file ++ 58 ∷ digits
  pub named : 0 < length file
  pub line_is : IsNumber digits line

-- `loop<=N`
pub record IsLoopWord (text : List ℕ) (n : ℕ) : Type 0 where
  pub digits : List ℕ
  pub text_is : text ≡ codes "loop<=" ++ digits
  pub number_is : IsNumber digits n

-- `FILE:LINE loop<=N`: these are the parts between its spaces
pub record IsSourceLine (line : List ℕ) (file : List ℕ) (number bound : ℕ) : Type 0 where
  pub source : List ℕ
  pub last : List ℕ
  pub parts : slice_split (λ byte. byte == 32) line ≡ source ∷ last ∷ []
  pub source_is : IsSource source file number
  pub bound_is : IsLoopWord last bound

-- `FILE:LINE loop<=N`, or `NAME PC loop<=N`
abbrev pub IsNoteLine : (line : List ℕ) → Subject → (bound : ℕ) → Type 0
IsNoteLine line (AtLine file number) bound = IsSourceLine line file number bound
IsNoteLine line (AtPlace method pc) bound = IsLoopLine line (record { name = method; pc = pc; bound = bound })

abbrev pub IsNote : (line : List ℕ) → Note → Type 0
IsNote line n = IsNoteLine line n.subject n.bound

-- what a line says: nothing, or a bound
abbrev pub SaysNotes : (line : List ℕ) → List Note → Type 0
SaysNotes line [] = IsSilent line
SaysNotes line (n ∷ []) = (¬ IsSilent line) × IsNote line n
SaysNotes line ns = ⊥

-- of no line of the grammar
abbrev pub IsNoNoteLine : (line : List ℕ) → Type 0
IsNoNoteLine line = (¬ IsSilent line) × ((n : Note) → ¬ IsNote line n)

-- ---- the text

-- the bounds that lines give, in their order
abbrev pub GiveNotes : (lines : List (List ℕ)) → List Note → Type 0
GiveNotes [] ns = ns ≡ []
GiveNotes (line ∷ lines) ns = (first : List Note) × (rest : List Note) × (ns ≡ first ++ rest) × SaysNotes line first × GiveNotes lines rest

-- the bounds that a text gives, of which no two are of one subject
pub record AreNotesRead (text : List ℕ) (ns : List Note) : Type 0 where
  pub given : GiveNotes (lines_of text) ns
  pub different : AreOfDifferentSubjects ns

-- The lines before this one, whose number counts from 1, give bounds of different subjects.
pub record AreNotesReadTo (text : List ℕ) (number : ℕ) : Type 0 where
  pub before : List (List ℕ)
  pub line : List ℕ
  pub after : List (List ℕ)
  pub lines : lines_of text ≡ before ++ line ∷ after
  pub number_is : number ≡ suc (length before)
  pub notes : List Note
  pub given : GiveNotes before notes
  pub different : AreOfDifferentSubjects notes

-- the line bounds what a line before it bounds
pub record IsNotedTwice (text : List ℕ) (number : ℕ) : Type 0 where
  pub reached : AreNotesReadTo text number
  pub again : Note
  pub says : SaysNotes reached.line (again ∷ [])
  pub there : IsSome (noted_bound again.subject reached.notes)

-- the cause of a fault: it is that of the first line that is refused
abbrev pub AreNotesRefused : (text : List ℕ) → SourceFault → Type 0
AreNotesRefused text (Line n) = (r : AreNotesReadTo text n) × IsNoNoteLine r.line
AreNotesRefused text (Twice n) = IsNotedTwice text n
AreNotesRefused text NoMemory = Unit {0}
