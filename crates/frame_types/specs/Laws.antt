-- What the frames of a method are, in the standard's own words: JVM Specification SE 8, 4.7.4 and 4.10.1.4.
use Rattle.std.specs.Prelude.{◌≡◌, ◌↔◌, ℕ, ◌+◌, ◌<◌, ◌≤◌, ◌⊎◌, true, false, List, [], ◌∷◌, ◌++◌, length, Some, None, Ok, Err, IsTrue}
use Rattle.std.specs.List.{AllByRecursion, list_all, list_any}
use Rattle.lists.specs.Lists.{onto}
use Rattle.class_pool.specs.declared.class.Code.{Code}
use Rattle.class_pool.specs.declared.class.Member.{Member}
use Rattle.class_pool.specs.declared.class.ClassFile.{ClassFile}
use Rattle.frame_types.specs.declared.types.VarType.{VarType}
use Rattle.frame_types.specs.declared.types.VarType.TheVariants.{Top}
use Rattle.frame_types.specs.declared.types.TypeFrame.{TypeFrame}
use Rattle.frame_types.specs.declared.types.Frames.{Frames}
use Rattle.frame_types.specs.declared.read.MapEntry.{MapEntry}
use Rattle.frame_types.specs.Types.{is_long, stack_words, is_this, is_start, names_new}
use Rattle.class_pool.specs.declared.entry.Entry.{Entry}
use Rattle.class_pool.specs.NumberLaws.{IsBytes}
use Rattle.frame_types.specs.Table.{entries_of, table_in}
use Rattle.frame_types.specs.Spelling.{IsTable}
use Rattle.frame_types.specs.Locals.{first_locals}
use Rattle.frame_types.specs.Frames.{frame_of, frames_from, frames_of}
use Rattle.frame_types.specs.Given.{BreaksMap, GivesFrames}

-- a Long is followed by Top
abbrev pub AreSpaced : List VarType → Type 0
AreSpaced [] = Unit {0}
AreSpaced (t ∷ []) = is_long t ≡ false
AreSpaced (t ∷ u ∷ ts) = (is_long t ≡ true → u ≡ Top) × AreSpaced (u ∷ ts)

-- all of the method's local variables, and an operand stack that is no deeper than its; each type that isn't initialised names a `new`, and the flag
-- is set exactly where one of the local variables is UninitializedThis
pub record IsOfCode (k : Code) (f : TypeFrame) : Type 0 where
  pub locals : length f.locals ≡ k.max_locals
  pub spaced : AreSpaced f.locals
  pub stack : stack_words f.stack ≤ k.max_stack
  pub local_news : IsTrue (list_all (names_new k.code) f.locals)
  pub stack_news : IsTrue (list_all (names_new k.code) f.stack)
  pub flag : f.flag ≡ list_any is_this f.locals

-- they stand at starts of instructions, which rise from this place on
abbrev pub StandFrom : Code → (least : ℕ) → List (ℕ × TypeFrame) → Type 0
StandFrom k least [] = Unit {0}
StandFrom k least (f ∷ fs) = (least ≤ f.0) × IsTrue (is_start k.code f.0) × IsOfCode k f.1 × StandFrom k (f.0 + 1) fs

pub record AreFrames (k : Code) (f : Frames) : Type 0 where
  pub first : IsOfCode k f.first
  pub at : StandFrom k 0 f.at

abbrev pub FramesLaw : Type 0
FramesLaw = (c : ClassFile) (m : Member) (k : Code) (f : Frames) → frames_of c m k ≡ Ok f → AreFrames k f

-- ---- faults

-- the bytes are no list of frames, or the method has no first frame
abbrev pub FailsAtStart : ClassFile → Member → Code → Type 0
FailsAtStart c m k = (entries_of c.pool k ≡ None) ⊎ (onto (first_locals c m) (λ locals. frame_of k locals []) ≡ None)

-- the entries before one give frames, which stand at smaller places; together with it they fail at this place
pub record FailsFrom (k : Code) (next : ℕ) (locals : List VarType) (entries : List MapEntry) (place : ℕ) : Type 0 where
  pub before : List MapEntry
  pub here : MapEntry
  pub after : List MapEntry
  pub are : entries ≡ before ++ here ∷ after
  pub frames : List (ℕ × TypeFrame)
  pub given : frames_from k next locals before ≡ Ok frames
  pub smaller : AllByRecursion (λ f. f.0 < place) frames
  pub least : next ≤ place
  pub fails : frames_from k next locals (before ++ here ∷ []) ≡ Err place

pub record FailsAtEntry (c : ClassFile) (m : Member) (k : Code) (place : ℕ) : Type 0 where
  pub entries : List MapEntry
  pub locals : List VarType
  pub entries_are : entries_of c.pool k ≡ Some entries
  pub locals_are : first_locals c m ≡ Some locals
  pub at : FailsFrom k 0 locals entries place

abbrev pub FaultLaw : Type 0
FaultLaw = (c : ClassFile) (m : Member) (k : Code) (place : ℕ) → frames_of c m k ≡ Err place → ((place ≡ 0) × FailsAtStart c m k) ⊎ FailsAtEntry c m k place

-- ---- which frames there are, and why there are none

-- a method has these frames exactly where its entries give them
abbrev pub FramesAreGiven : Type 0
FramesAreGiven = (c : ClassFile) (m : Member) (k : Code) (f : Frames) → (frames_of c m k ≡ Ok f) ↔ GivesFrames c m k f

-- the rule `map` fails at a place exactly where one of its causes holds there
abbrev pub FaultsHaveCauses : Type 0
FaultsHaveCauses = (c : ClassFile) (m : Member) (k : Code) (place : ℕ) → (frames_of c m k ≡ Err place) ↔ BreaksMap c m k place

-- bytes are read as a list of frames exactly where they spell it
abbrev pub TablesAreSpelled : Type 0
TablesAreSpelled = (pool : List Entry) (bytes : List ℕ) (es : List MapEntry) → IsBytes bytes → (table_in pool bytes ≡ Some es) ↔ IsTable pool es bytes
