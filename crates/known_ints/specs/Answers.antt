-- What is told of the numbers that local variables hold where they are loaded.
use Rattle.std.specs.Prelude.{◌≡◌, ◌≢◌, ◌⊎◌, ℕ, ◌<◌, ℤ, [], List, length, Contains, Some, None, slice_index_or}
use Rattle.std.specs.declared.option.Option.{Option}
use Rattle.bytecode_model.specs.Program.{Program}
use Rattle.method_flow.specs.Nodes.{At, IsEdge, IsReached}
use Rattle.loop_rules.specs.Further.Writing.{MayBeLast}
use Rattle.loop_rules.specs.Further.Known.{Known}
use Rattle.loop_rules.specs.declared.further.table.KnownInt.{KnownInt}
use Rattle.loop_rules.specs.Further.Found.{Table, known_at}
use Rattle.known_ints.specs.declared.parts.Part.{Part}
use Rattle.known_ints.specs.declared.knowing.Local.{Local}
use Rattle.known_ints.specs.declared.answers.Answer.{Answer}
use Rattle.known_ints.specs.declared.answers.Answer.TheVariants.{Until, Never}
use Rattle.known_ints.specs.declared.answers.Answer.TheVariants.{Known as Told}
use Rattle.known_ints.specs.declared.answers.Loads.{Loads}
use Rattle.known_ints.specs.Parts.{part_at, written}
use Rattle.known_ints.specs.Code.{CodeOf, IsCodeOf}
use Rattle.known_ints.specs.Knowing.{AreStoredBy, found_of, load_of}

-- ---- one answer

-- what was found is found still
abbrev pub AreKept : (old new : List (Option KnownInt)) → Type 0
AreKept xs ys = (p : ℕ) (k : KnownInt) → known_at xs p ≡ Some k → known_at ys p ≡ Some k

-- It is so of the number that the local variable holds once control has passed the place: all that may have been stored last is this number; this place may
-- be that where it was; or no number is it, whatever is found else.
abbrev pub IsAnswer : Program → (method : ℕ) → List Part → (found : List (Option KnownInt)) → Local → (place : ℕ) → Answer → Type 0
IsAnswer P m parts xs l p (Told c) = AreStoredBy P m parts xs l p c
IsAnswer P m parts xs l p (Until w) = MayBeLast P m l.index (At p) (Some w)
IsAnswer P m parts xs l p Never = (ys : List (Option KnownInt)) (c : ℤ) → AreKept xs ys → ¬ AreStoredBy P m parts ys l p c

-- something is told, and nothing that is found by now changes it
abbrev pub IsSettled : (found : List (Option KnownInt)) → Option Answer → Type 0
IsSettled xs None = ⊥
IsSettled xs (Some (Until w)) = known_at xs w ≡ None
IsSettled xs (Some a) = Unit {0}

-- ---- what is told of each load

abbrev pub answer_at : List (Option Answer) → (place : ℕ) → Option Answer
answer_at ts p = slice_index_or ts p None

-- what is told of loads of the local variable is so
abbrev pub AreAnswersFor : Program → (method : ℕ) → List Part → (found : List (Option KnownInt)) → List (Option Answer) → Local → Type 0
AreAnswersFor P m parts xs ts l =
    (p : ℕ) (a : Answer) → IsReached (IsEdge P m) (At p) → part_at parts p ≡ load_of l → answer_at ts p ≡ Some a → IsAnswer P m parts xs l p a

-- so of all loads
abbrev pub AreAnswers : CodeOf → Table → List (Option Answer) → Type 0
AreAnswers code t ts =
    (P : Program) (known : Known) (m : ℕ) → IsCodeOf P known m code → (l : Local) → AreAnswersFor P m code.parts (found_of t l.holds) ts l

-- if the instruction at the place is a load, it is settled what is told of it
abbrev pub IsSettledAt : CodeOf → Table → List (Option Answer) → (place : ℕ) → Type 0
IsSettledAt code t ts p = (l : Local) → part_at code.parts p ≡ load_of l → IsSettled (found_of t l.holds) (answer_at ts p)

-- all that is told is so, of the load at the place as well, if there is one, of which it is settled
pub record IsAsked (P : Program) (m : ℕ) (code : CodeOf) (t : Table) (ts : List (Option Answer)) (place : ℕ) : Type 0 where
  pub answers : (l : Local) → AreAnswersFor P m code.parts (found_of t l.holds) ts l
  pub settled : IsSettledAt code t ts place

-- ---- a search

-- the search stops at the place: the local variable is written there, or loaded, where it is settled what is told of that
abbrev pub IsStop : Loads → (place : ℕ) → Type 0
IsStop q p =
    Contains (written (part_at q.code.now.parts p)) q.local.index
    ⊎ ((part_at q.code.now.parts p ≡ load_of q.local) × IsSettled q.found.now (answer_at q.answers.now p))

-- what is told of what was stored last once control has passed the place is settled, and so
pub record IsToldAt (P : Program) (m : ℕ) (q : Loads) (p : ℕ) (a : Answer) : Type 0 where
  pub settled : IsSettled q.found.now (Some a)
  pub is : IsAnswer P m q.code.now.parts q.found.now q.local p a

-- it is so of an instruction that stores a number, by what is found of that
abbrev pub IsFound : (place : ℕ) → (found : Option KnownInt) → Answer → Type 0
IsFound p None a = a ≡ Until p
IsFound p (Some k) a = a ≡ Told k.value

-- what is told of one place more, where this number is what was told of those before it
abbrev pub IsJoin : (earlier : Option ℤ) → (told new : Answer) → Type 0
IsJoin (Some v) (Told w) a = ((v ≡ w) × (a ≡ Told w)) ⊎ ((v ≢ w) × (a ≡ Never))
IsJoin o told a = a ≡ told

-- two of the places have different numbers
pub record AreDifferent (Is : (place : ℕ) → Answer → Type 0) (ps : List ℕ) : Type 0 where
  pub one : ℕ
  pub other : ℕ
  pub v : ℤ
  pub w : ℤ
  pub one_of : Contains ps one
  pub other_of : Contains ps other
  pub one_is : Is one (Told v)
  pub other_is : Is other (Told w)
  pub apart : v ≢ w

-- what is told of all the places, of what is told of each
abbrev pub IsToldOfAll : (Is : (place : ℕ) → Answer → Type 0) → (places : List ℕ) → Answer → Type 0
IsToldOfAll Is ps (Told c) = (p : ℕ) → Contains ps p → Is p (Told c)
IsToldOfAll Is ps (Until w) = (p : ℕ) × Contains ps p × Is p (Until w)
IsToldOfAll Is ps Never = ((p : ℕ) × Contains ps p × Is p Never) ⊎ AreDifferent Is ps ⊎ (ps ≡ [])

-- what has been told of the first so many of the places is this number, if there are any
abbrev pub IsSoFar : (Is : (place : ℕ) → Answer → Type 0) → (places : List ℕ) → (n : ℕ) → Option ℤ → Type 0
IsSoFar Is ps n None = n ≡ 0
IsSoFar Is ps n (Some c) = (0 < n) × ((i : ℕ) → i < n → Is (slice_index_or ps i 0) (Told c))

-- ---- what is told is kept

-- it was settled what is told of the load at the place, if there is one
pub record IsSettling (code : CodeOf) (t : Table) (ts ts' : List (Option Answer)) (p : ℕ) : Type 0 where
  pub long : length ts' ≡ length ts
  pub kept : AreAnswers code t ts → AreAnswers code t ts'
  pub settled : AreAnswers code t ts → (P : Program) (known : Known) (m : ℕ) → IsCodeOf P known m code → IsReached (IsEdge P m) (At p)
      → IsSettledAt code t ts' p
