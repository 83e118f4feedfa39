-- What the fields of bounds mean, and what a line is found to say.
use Rattle.std.specs.Prelude.{◌≡◌, ◌≢◌, ◌<◌, ℕ, Bool, true, false, ◌==◌, List, [], ◌∷◌, length, slice_index_or}
use Rattle.std.specs.List.{slice_split}
use Rattle.bound_texts.specs.Loops.Lines.{IsNumber}
use Rattle.bound_texts.specs.declared.sources.site.Site.{Site}
use Rattle.bound_texts.specs.declared.sources.parts.Parts.{Parts}
use Rattle.bound_texts.specs.declared.sources.parts.Parts.TheVariants.{Two, Three, Other}
use Rattle.bound_texts.specs.declared.sources.subject.SubjectRef.{SubjectRef}
use Rattle.bound_texts.specs.declared.sources.subject.SubjectRef.TheVariants.{Line, Place}
use Rattle.bound_texts.specs.declared.sources.subject.Note.{Note as NoteRef}
use Rattle.bound_texts.specs.declared.sources.line.Said.{Said}
use Rattle.bound_texts.specs.declared.sources.line.Said.TheVariants.{Nothing, Note as Noted, Malformed}
use Rattle.bound_texts.specs.Sources.Notes.{Subject, AtLine, AtPlace, Note}
use Rattle.bound_texts.specs.Sources.Grammar.{IsSource, IsLoopWord, SaysNotes, IsNoNoteLine}

-- ---- what is kept

abbrev pub subject_of : (of_line : Bool) → (name : List ℕ) → (number : ℕ) → Subject
subject_of true name n = AtLine name n
subject_of false name n = AtPlace name n

-- a bound as it is kept, where these are the names
abbrev pub note_of : (names : List (List ℕ)) → Site × ℕ → Note
note_of names e = record { subject = subject_of e.0.of_line (slice_index_or names e.0.name []) e.0.number; bound = e.1 }

-- ---- what is handed on

abbrev pub subject_seen : SubjectRef → Subject
subject_seen (Line file line) = AtLine file.now line
subject_seen (Place method pc) = AtPlace method.now pc

abbrev pub note_at : NoteRef → Note
note_at n = record { subject = subject_seen n.subject; bound = n.bound }

abbrev pub is_line : Subject → Bool
is_line (AtLine file line) = true
is_line (AtPlace method pc) = false

abbrev pub name_of : Subject → List ℕ
name_of (AtLine file line) = file
name_of (AtPlace method pc) = method

abbrev pub number_of : Subject → ℕ
number_of (AtLine file line) = line
number_of (AtPlace method pc) = pc

-- ---- what is read

-- the parts between spaces
abbrev pub AreParts : (line : List ℕ) → Parts → Type 0
AreParts line (Two a b) = slice_split (λ byte. byte == 32) line ≡ a.now ∷ b.now ∷ []
AreParts line (Three a b c) = slice_split (λ byte. byte == 32) line ≡ a.now ∷ b.now ∷ c.now ∷ []
AreParts line Other = (length (slice_split (λ byte. byte == 32) line) ≢ 2) × (length (slice_split (λ byte. byte == 32) line) ≢ 3)

-- of two parts
abbrev pub IsOfSource : (source : List ℕ) → Subject → Type 0
IsOfSource source (AtLine file line) = IsSource source file line
IsOfSource source (AtPlace method pc) = ⊥

abbrev pub IsSourceNote : (source last : List ℕ) → Note → Type 0
IsSourceNote source last n = IsOfSource source n.subject × IsLoopWord last n.bound

-- of three parts
abbrev pub IsOfPlace : (name pc : List ℕ) → Subject → Type 0
IsOfPlace name pc (AtLine file line) = ⊥
IsOfPlace name pc (AtPlace method place) = (method ≡ name) × (0 < length method) × IsNumber pc place

abbrev pub IsPlaceNote : (name pc last : List ℕ) → Note → Type 0
IsPlaceNote name pc last n = IsOfPlace name pc n.subject × IsLoopWord last n.bound

-- what a line was found to say
abbrev pub Finds : (line : List ℕ) → Said → Type 0
Finds line Nothing = SaysNotes line []
Finds line (Noted n) = SaysNotes line (note_at n ∷ [])
Finds line Malformed = IsNoNoteLine line
