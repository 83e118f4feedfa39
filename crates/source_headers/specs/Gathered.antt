-- What is gathered as the methods are gone through: their text, and at what lines and places loops are headed.
use Rattle.std.specs.Prelude.{◌≡◌, ◌↔◌, ◌⊎◌, ℕ, ◌<◌, ◌++◌, List, length, Contains, Option, Some, slice_get}
use Rattle.std.specs.List.{concat}
use Rattle.class_pool.specs.declared.class.ClassFile.{ClassFile}
use Rattle.program_tables.specs.Resolved.{resolved}
use Rattle.name_laws.specs.Written.{written_name}
use Rattle.loop_rules.specs.declared.found.FoundLoop.{FoundLoop}
use Rattle.bound_texts.specs.Sources.Notes.{Subject, AtLine, AtPlace, Note}
use Rattle.source_places.specs.declared.methods.sources.MethodSource.{MethodSource}
use Rattle.source_headers.specs.declared.methods.MethodLoops.{MethodLoops}
use Rattle.bound_causes.specs.declared.shapes.Shape.{Shape}
use Rattle.bound_causes.specs.declared.shapes.Shape.TheVariants.{Irreducible, Reducible}
use Rattle.source_headers.specs.declared.gathering.Gathered.{Gathered}
use Rattle.source_places.specs.Methods.Sources.{file_of, source_at, IsFileOf}
use Rattle.source_headers.specs.Headers.{IsMethodText}
use Rattle.source_headers.specs.Straying.{HasSingleEntries, IsHeaderAt, IsWithinIrreducible}
use Rattle.source_headers.specs.Known.{KnownSites, IsWith, LacksSite}
use Rattle.source_places.specs.Methods.Told.{source_by}
use Rattle.source_headers.specs.Told.{headed_places, lines_by}

-- ---- what is of a method

-- it has the name, and its loops have one entry each
abbrev pub IsNameOf : List ClassFile → (method : ℕ) → (name : List ℕ) → Type 0
IsNameOf cs m name = HasSingleEntries (resolved cs) m × (written_name cs m ≡ name)

-- its name, and a place where it heads a loop
abbrev pub IsPlaceOf : List ClassFile → (method : ℕ) → (site : List ℕ × ℕ) → Type 0
IsPlaceOf cs m s = IsHeaderAt (resolved cs) m s.1 × (written_name cs m ≡ s.0)

-- a line of a file at which it heads a loop, or any of its lines where its loops have several entries
abbrev pub IsLineOf : List ClassFile → (method : ℕ) → (site : List ℕ × ℕ) → Type 0
IsLineOf cs m s = (p : ℕ) × (IsHeaderAt (resolved cs) m p ⊎ IsWithinIrreducible (resolved cs) m p) × (source_at cs m p ≡ Some s)

-- ---- what is gathered

-- just what is of the methods below a number
abbrev pub AreBelow : {X : Type 0} → (Of : ℕ → X → Type 0) → (count : ℕ) → List X → Type 0
AreBelow {X} Of n xs = (x : X) → Contains xs x ↔ ((m : ℕ) × (m < n) × Of m x)

-- the file of a class
abbrev pub IsFileAt : List ClassFile → (class : ℕ) → (file : List ℕ) → Type 0
IsFileAt cs k file = (c : ClassFile) × (slice_get cs k ≡ Some c) × (file_of c ≡ Some file)

-- just the files of the program's classes
abbrev pub AreFiles : List ClassFile → List (List ℕ) → Type 0
AreFiles cs files = (file : List ℕ) → Contains files file ↔ IsFileOf cs file

-- of so many methods
pub record AreGathered (cs : List ClassFile) (notes : List Note) (found : List FoundLoop) (n : ℕ) (g : Gathered) : Type 0 where
  pub texts : List (List ℕ)
  pub count : length texts ≡ n
  pub each : (m : ℕ) (text : List ℕ) → slice_get texts m ≡ Some text → IsMethodText (resolved cs) cs notes found (written_name cs) m text
  pub text_is : g.text.items ≡ concat texts
  pub names : AreBelow (IsNameOf cs) n g.methods.names
  pub places : AreBelow (IsPlaceOf cs) n g.methods.sites
  pub files : AreFiles cs g.files.names
  pub lines : AreBelow (IsLineOf cs) n g.files.sites

-- ---- one method more

-- the file, where there is one
abbrev pub IsFileBy : Option MethodSource → (file : List ℕ) → Type 0
IsFileBy source file = (s : MethodSource) × (source ≡ Some s) × (file ≡ s.file.items)

-- a line at which a loop is headed, or any where loops have several entries
abbrev pub IsLineBy : Option MethodSource → Shape → (site : List ℕ × ℕ) → Type 0
IsLineBy source (Reducible places) s = (p : ℕ) × Contains places.items p × (source_by source p ≡ Some s)
IsLineBy source (Irreducible nodes) s = (p : ℕ) × (source_by source p ≡ Some s)

-- its lines are known
pub record AddsLines (old new : KnownSites) (source : Option MethodSource) (shape : Shape) : Type 0 where
  pub kept : (file : List ℕ) → Contains old.names file → Contains new.names file
  pub files : (file : List ℕ) → Contains new.names file → Contains old.names file ⊎ IsFileBy source file
  pub lines : IsWith old.sites new.sites (IsLineBy source shape)

-- its name, where its loops have one entry each, and the places of their headers
abbrev pub IsNameBy : Shape → (name new : List ℕ) → Type 0
IsNameBy (Reducible places) name x = x ≡ name
IsNameBy (Irreducible nodes) name x = ⊥

pub record AddsPlaces (old new : KnownSites) (name : List ℕ) (shape : Shape) : Type 0 where
  pub names : IsWith old.names new.names (IsNameBy shape name)
  pub places : IsWith old.sites new.sites (λ s. (s.0 ≡ name) × Contains (headed_places shape) s.1)

-- its lines, its name and its places are gathered
pub record AddsMethod (old new : Gathered) (notes : List Note) (found : List FoundLoop) (m : ℕ) (name : List ℕ) (x : MethodLoops) : Type 0 where
  pub text : new.text.items ≡ old.text.items ++ lines_by notes found m name x.source x.shape
  pub places : AddsPlaces old.methods new.methods name x.shape
  pub lines : AddsLines old.files new.files x.source x.shape

-- ---- whether a bound strays

-- by what is gathered
abbrev pub IsLacking : Gathered → Subject → Type 0
IsLacking g (AtLine file line) = LacksSite g.files file line
IsLacking g (AtPlace method pc) = LacksSite g.methods method pc

-- what is gathered of all methods
pub record AreKnown (cs : List ClassFile) (g : Gathered) : Type 0 where
  pub names : (name : List ℕ) → Contains g.methods.names name ↔ ((m : ℕ) × IsNameOf cs m name)
  pub places : (s : List ℕ × ℕ) → Contains g.methods.sites s ↔ ((m : ℕ) × IsPlaceOf cs m s)
  pub files : AreFiles cs g.files.names
  pub lines : (s : List ℕ × ℕ) → Contains g.files.sites s ↔ ((m : ℕ) × IsLineOf cs m s)
