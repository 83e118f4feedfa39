-- Which instructions write local variables, and which ints they store.
use Rattle.std.specs.Prelude.{◌≡◌, ◌≢◌, ◌↔◌, ◌⊎◌, ◌==◌, ℕ, ◌*◌, ℤ, Bool, false, not, List, [], ◌∷◌, ◌++◌, All, Contains, Some, None, MatchOption}
use Rattle.std.specs.declared.option.Option.{Option}
use Rattle.loop_acts.specs.declared.effects.Act.{Act}
use Rattle.loop_acts.specs.declared.effects.Act.TheVariants as does
use Rattle.loop_acts.specs.Acts.{act_at, written}

-- the instruction at the place writes the local variable
abbrev pub WritesAt : List Act → (local place : ℕ) → Type 0
WritesAt acts k p = Contains (written (act_at acts p)) k

-- the node is an instruction at the place that writes the local variable
abbrev pub IsWriterAt : List Act → (node local place : ℕ) → Type 0
IsWriterAt acts u local p = (u ≡ 2 * p) × WritesAt acts local p

-- the node is no instruction that writes a local variable
abbrev pub IsIdle : List Act → (node : ℕ) → Type 0
IsIdle acts u = (local p : ℕ) → ¬ IsWriterAt acts u local p

-- one of these nodes is an instruction at the place that writes the local variable
abbrev pub IsWriterAmong : List Act → List ℕ → (local : ℕ) → (place : ℕ) → Type 0
IsWriterAmong acts nodes local p = Contains nodes (2 * p) × WritesAt acts local p

-- these nodes have just the instructions of those that write local variables
abbrev pub AreWriters : List Act → (nodes found : List ℕ) → Type 0
AreWriters acts nodes found = (local p : ℕ) → IsWriterAmong acts found local p ↔ IsWriterAmong acts nodes local p

-- the node was added to these, if it is an instruction that writes a local variable
abbrev pub IsAddedWriter : List Act → (node : ℕ) → (old new : List ℕ) → Type 0
IsAddedWriter acts u old new = (IsIdle acts u × (new ≡ old)) ⊎ (new ≡ old ++ u ∷ [])

-- another place was found
abbrev pub is_other : Option ℕ → (place : ℕ) → Bool
is_other None p = false
is_other (Some q) p = not (q == p)

-- it holds of this one, and of no other
abbrev pub IsAlone : {X : Type 0} → (X → Type 0) → X → Type 0
IsAlone {X} K x = K x × ((y : X) → K y → y ≡ x)

-- the only one of which it holds, or none where there are none or several
abbrev pub IsOnlyOf : {X : Type 0} → (X → Type 0) → Option X → Type 0
IsOnlyOf {X} K o = MatchOption o ((x : X) → ¬ IsAlone K x) (IsAlone K)

-- one of which it holds, and of no other one; or none
abbrev pub IsOnly : {X : Type 0} → (X → Type 0) → Option X → Type 0
IsOnly {X} K o = MatchOption o ((x : X) → ¬ K x) (IsAlone K)

-- the constant that an act stores
abbrev pub stored_by : Act → Option ℤ
stored_by (does.Set k o) = o
stored_by a = None

-- the instruction at the place stores the int
abbrev pub StoresAt : List Act → ℤ → (place : ℕ) → Type 0
StoresAt acts c p = stored_by (act_at acts p) ≡ Some c

-- the int that the instructions at all of these places store; or there are places, and no such int
abbrev pub IsStoredByAll : List Act → (places : List ℕ) → Option ℤ → Type 0
IsStoredByAll acts places o = MatchOption o ((c : ℤ) → places ≢ [] → ¬ All (StoresAt acts c) places) (λ c. All (StoresAt acts c) places)
