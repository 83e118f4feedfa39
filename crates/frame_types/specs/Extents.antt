-- What the rules on frames ask of local variables, known behind each of their types; and what an entry makes of them.
use Rattle.std.specs.Prelude.{◌≡◌, ℕ, ◌-◌, Bool, true, false, ◌&&◌, ◌||◌, nat_le, IsTrue, sum_by, List, [], ◌∷◌, Some, None, Result, Ok, Err}
use Rattle.std.specs.List.{list_all, list_any}
use Rattle.lists.specs.Lists.{onto}
use Rattle.class_pool.specs.declared.entry.Entry.{Entry}
use Rattle.class_pool.specs.declared.class.Code.{Code}
use Rattle.class_pool.specs.declared.class.Member.{Member}
use Rattle.class_pool.specs.declared.class.ClassFile.{ClassFile}
use Rattle.frame_types.specs.declared.types.VarType.{VarType}
use Rattle.frame_types.specs.declared.types.TypeFrame.{TypeFrame}
use Rattle.frame_types.specs.declared.types.Frames.{Frames}
use Rattle.frame_types.specs.declared.types.MapFault.{MapFault}
use Rattle.frame_types.specs.declared.read.Change.{Change}
use Rattle.frame_types.specs.declared.read.MapEntry.{MapEntry}
use Rattle.frame_types.specs.declared.steps.EntryType.{EntryType}
use Rattle.frame_types.specs.declared.steps.FirstLocal.{FirstLocal}
use Rattle.frame_types.specs.declared.steps.MapStep.{MapStep}
use Rattle.frame_types.specs.declared.read.StepEntry.{StepEntry}
use Rattle.frame_types.specs.declared.extents.Extent.{Extent}
use Rattle.frame_types.specs.Types.{words_of, stack_words, is_this, is_start, names_new}
use Rattle.frame_types.specs.Locals.{first_locals}
use Rattle.frame_types.specs.Frames.{changed, frame_of, or_fails_at, frames_from, with_first, IsMapFault}
use Rattle.frame_types.specs.Steps.{named, change_named, AreSteps}

-- a type without the name of its class
abbrev pub shape : EntryType → VarType
shape t = named [] t

abbrev pub entry_named : List Entry → StepEntry → MapEntry
entry_named pool e = record { offset = e.offset; change = change_named pool e.change }

-- ---- extents

-- behind no type
abbrev pub whole_extent : (most : ℕ) → Extent
whole_extent most = record { left = most; this = false }

abbrev pub extent_behind : Extent → VarType → Extent
extent_behind x t = record { left = x.left - words_of t; this = x.this || is_this t }

-- behind each of them
abbrev pub extents_behind : Extent → List VarType → List Extent
extents_behind x [] = []
extents_behind x (t ∷ ts) = extent_behind x t ∷ extents_behind (extent_behind x t) ts

-- behind all of them
abbrev pub last_extent : Extent → List Extent → Extent
last_extent x [] = x
last_extent x (y ∷ ys) = last_extent y ys

-- the words of the local variables with which a method begins
abbrev pub first_words : List FirstLocal → ℕ
first_words first = sum_by (λ t. t.words) first

-- behind each of those
abbrev pub first_extents : Extent → List FirstLocal → List Extent
first_extents x [] = []
first_extents x (t ∷ ts) = let y : Extent = record { left = x.left - t.words; this = x.this || t.this } in y ∷ first_extents y ts

-- the types take at most so many words, and each `new` that is named is there
abbrev pub fit : (code : List ℕ) → (most : ℕ) → List VarType → Bool
fit code most ts = nat_le (stack_words ts) most && list_all (names_new code) ts

-- local variables of a frame, with their extents
pub record AreLocals (k : Code) (ls : List VarType) (es : List Extent) : Type 0 where
  pub extents : es ≡ extents_behind (whole_extent k.max_locals) ls
  pub fit : IsTrue (fit k.code k.max_locals ls)

-- ---- what an entry makes of them

-- a frame, and the local variables behind it; or none
abbrev pub Makes : Code → Change → (before : List VarType) → (after : List Extent) → Bool → Type 0
Makes k change before es true =
    (after : List VarType) × (stack : List VarType) × (f : TypeFrame) × (changed change before ≡ Some (after, stack)) × (frame_of k after stack ≡ Some f)
    × (f.flag ≡ list_any is_this after) × AreLocals k after es
Makes k change before es false = onto (changed change before) (λ x. frame_of k x.0 x.1) ≡ None

-- the same at a place, where an instruction begins if it makes one
abbrev pub MakesAt : Code → (place : ℕ) → Change → (before : List VarType) → (after : List Extent) → Bool → Type 0
MakesAt k place change before es true = IsTrue (is_start k.code place) × Makes k change before es true
MakesAt k place change before es false = (IsTrue (is_start k.code place) → Makes k change before es false)

-- ---- all entries

-- steps that give these frames, or the fault
abbrev pub StepsGive : List Entry → Code → (locals : List VarType) → Result (List MapStep) MapFault → (found : Result (List (ℕ × TypeFrame)) ℕ) → Type 0
StepsGive pool k locals (Ok at) found = (fs : List (ℕ × TypeFrame)) × (found ≡ Ok fs) × AreSteps pool k locals at fs
StepsGive pool k locals (Err fault) found = IsMapFault fault found

-- the frames of a method whose StackMapTable has these entries
abbrev pub frames_with : ClassFile → Member → Code → List MapEntry → Result Frames ℕ
frames_with c m k entries =
    or_fails_at 0 (first_locals c m) (λ locals.
    or_fails_at 0 (frame_of k locals []) (λ first.
    with_first first (frames_from k 0 locals entries)))
