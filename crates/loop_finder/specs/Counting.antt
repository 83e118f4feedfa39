-- How often a loop goes round, by acts and numbers of nodes.
use Rattle.std.specs.Prelude.{◌≡◌, ◌≢◌, ◌↔◌, ◌⊎◌, ◌==◌, ℕ, ◌*◌, ◌≤◌, ℤ, ◌+ℤ◌, pos, Bool, ◌&&◌, if◌then◌else◌}
use Rattle.std.specs.Prelude.{List, [], ◌∷◌, map, Some, None, Contains, IfSome, MatchOption, MatchBool}
use Rattle.std.specs.declared.option.Option.{Option}
use Rattle.std.specs.List.Sorted.{IsStrictlyIncreasing}
use Rattle.loop_nest.specs.Digraph.{Digraph}
use Rattle.loop_nest.specs.Walks.{IsMember}
use Rattle.section_check.specs.Least.{IsLeast}
use Rattle.code_scan.specs.declared.rows.Comparison.{Comparison}
use Rattle.code_scan.specs.Rows.{test_of}
use Rattle.loop_rules.specs.Tests.{LeavesLoop}
use Rattle.loop_rules.specs.Iterations.{IsOnEachIteration, FirstTested}
use Rattle.loop_rules.specs.Values.{IsFirstOut}
use Rattle.loop_marks.specs.Marking.{IsRest}
use Rattle.loop_acts.specs.declared.effects.Test.{Test}
use Rattle.loop_acts.specs.declared.effects.Act.{Act}
use Rattle.loop_acts.specs.declared.effects.Act.TheVariants as does
use Rattle.loop_finder.specs.declared.body.Beginning.{Beginning}
use Rattle.loop_finder.specs.declared.body.Beginnings.{Beginnings}
use Rattle.loop_finder.specs.declared.body.Beginnings.TheVariants.{Stored, Listed}
use Rattle.loop_finder.specs.declared.counting.Choice.{Choice}
use Rattle.loop_finder.specs.declared.counting.Known.{Known}
use Rattle.loop_acts.specs.Acts.{act_at, taken_by}
use Rattle.loop_acts.specs.Writing.{WritesAt}
use Rattle.loop_finder.specs.Setting.{IsSetTo, IsOnlyEntry, AreWritesBefore}
use Rattle.loop_acts.specs.Values.{IsFirst}

-- what the instructions of a method do, by place, its graph, and with what local variables begin in its loops
pub record Body : Type 0 where
  pub acts : List Act
  pub graph : Digraph
  pub begins : Beginnings

-- the entry is for the loop with this header and this local variable
abbrev pub is_begin_of : (header local : ℕ) → Beginning → Bool
is_begin_of h k x = (x.header == h) && (x.local == k)

-- the int of the first such entry
abbrev pub begin_in : List Beginning → (header local : ℕ) → Option ℤ
begin_in [] h k = None
begin_in (x ∷ xs) h k = if is_begin_of h k x then Some x.value else begin_in xs h k

-- in the loop with this header the local variable begins with the int: with what is stored on the one way to the loop, or with what is listed
abbrev pub BeginsBy : Beginnings → List Act → Digraph → (h local : ℕ) → ℤ → Type 0
BeginsBy Stored acts g h k c = IsSetTo acts g h k c
BeginsBy (Listed xs) acts g h k c = begin_in xs.items h k ≡ Some c

abbrev pub BeginsIn : Body → (h local : ℕ) → ℤ → Type 0
BeginsIn b h k c = BeginsBy b.begins b.acts b.graph h k c

-- a step of the local variable by s stands at the place, and no other member writes the variable
pub record IsOnlyStep (b : Body) (h local step : ℕ) (s : ℤ) : Type 0 where
  pub is : act_at b.acts step ≡ does.Step local s
  pub moves : s ≢ pos 0
  pub member : IsMember b.graph h (2 * step)
  pub alone : (p : ℕ) → IsMember b.graph h (2 * p) → WritesAt b.acts local p → p ≡ step

-- for the test at a place: the step, the first value, and when a value leaves the loop
pub record IsChoice (b : Body) (h : ℕ) (k : Choice) : Type 0 where
  pub test : Test
  pub is : act_at b.acts k.test ≡ does.Test test
  pub step : IsOnlyStep b h test.local k.step k.by
  pub begins : BeginsIn b h test.local k.begin
  pub out : ℤ → Bool
  pub leaves : LeavesLoop b.graph h k.test test.next test.offset (taken_by test) out
  pub same : (value : ℤ) → out value ≡ test_of k.out k.limit value

-- the number of the first value that leaves the loop, where the test and the step are on each iteration
pub record CountsFor (g : Digraph) (h : ℕ) (k : Choice) (n : ℕ) : Type 0 where
  pub each_test : IsOnEachIteration g h (2 * k.test)
  pub each_step : IsOnEachIteration g h (2 * k.step)
  pub first : ℤ
  pub tested : FirstTested g h (2 * k.step) (2 * k.test) k.begin k.by first
  pub first_out : IsFirstOut first k.by (λ value. test_of k.out k.limit value) n

-- such a number for the test at the place
abbrev pub CountsAt : Body → (h place n : ℕ) → Type 0
CountsAt b h p n = (k : Choice) × IsChoice b h k × (k.test ≡ p) × CountsFor b.graph h k n

-- such a number for the test at the node
abbrev pub CountsByNode : Body → (h node n : ℕ) → Type 0
CountsByNode b h u n = (p : ℕ) × (u ≡ 2 * p) × CountsAt b h p n

-- such a number of the loop
abbrev pub Counts : Body → (h n : ℕ) → Type 0
Counts b h n = (p : ℕ) × CountsAt b h p n

-- just the loops that have such numbers, by the places of their headers, with the least ones
pub record AreBounds (b : Body) (found : List (ℕ × ℕ)) : Type 0 where
  pub rising : IsStrictlyIncreasing (map (λ x. x.0) found)
  pub each : (p n : ℕ) → Contains found (p, n) ↔ IsLeast (Counts b (2 * p)) (Some n)

-- ---- what is found on the way

-- these are the writes before the loop, which is entered from one node alone
pub record AreOnlyBefore (acts : List Act) (g : Digraph) (h : ℕ) (places : List ℕ) : Type 0 where
  pub entry : ℕ
  pub only : IsOnlyEntry g h entry
  pub writes : AreWritesBefore acts g entry places

-- they are, where local variables begin with what is stored there
abbrev pub AreBeforeBy : Beginnings → List Act → Digraph → (h : ℕ) → (places : List ℕ) → Type 0
AreBeforeBy Stored acts g h places = AreOnlyBefore acts g h places
AreBeforeBy (Listed xs) acts g h places = Unit {0}

abbrev pub AreBefore : Body → (h : ℕ) → (places : List ℕ) → Type 0
AreBefore b h places = AreBeforeBy b.begins b.acts b.graph h places

-- what the act adds to the local variable, where that isn't 0
abbrev pub IsAddedBy : Act → (local : ℕ) → Option ℤ → Type 0
IsAddedBy a local o = MatchOption o ((s : ℤ) → a ≡ does.Step local s → s ≡ pos 0) (λ s. (a ≡ does.Step local s) × (s ≢ pos 0))

-- the only step of the local variable, and what is added
abbrev pub IsStepFound : Body → (h local : ℕ) → Option (ℕ × ℤ) → Type 0
IsStepFound b h local o = MatchOption o
    ((step : ℕ) (s : ℤ) → ¬ IsOnlyStep b h local step s)
    (λ x. IsOnlyStep b h local x.0 x.1 × ((step : ℕ) (s : ℤ) → IsOnlyStep b h local step s → (step ≡ x.0) × (s ≡ x.1)))

-- a value leaves the loop at the test just where it compares so with the limit
pub record IsLeavingBy (g : Digraph) (h place : ℕ) (t : Test) (c : Comparison) : Type 0 where
  pub out : ℤ → Bool
  pub leaves : LeavesLoop g h place t.next t.offset (taken_by t) out
  pub same : (value : ℤ) → out value ≡ test_of c t.limit value

abbrev pub IsLeaving : Digraph → (h place : ℕ) → Test → Option Comparison → Type 0
IsLeaving g h p t o = MatchOption o ((out : ℤ → Bool) → ¬ LeavesLoop g h p t.next t.offset (taken_by t) out) (IsLeavingBy g h p t)

-- another choice for the same test is the same but for how it says which values leave the loop
pub record IsLikeChoice (k other : Choice) : Type 0 where
  pub step : other.step ≡ k.step
  pub by : other.by ≡ k.by
  pub begin : other.begin ≡ k.begin
  pub out : (value : ℤ) → test_of other.out other.limit value ≡ test_of k.out k.limit value

pub record IsOnlyChoice (b : Body) (h place : ℕ) (k : Choice) : Type 0 where
  pub is : IsChoice b h k
  pub test : k.test ≡ place
  pub only : (other : Choice) → IsChoice b h other → other.test ≡ place → IsLikeChoice k other

abbrev pub IsChoiceAt : Body → (h place : ℕ) → Option Choice → Type 0
IsChoiceAt b h p o = MatchOption o ((k : Choice) → IsChoice b h k → k.test ≢ p) (IsOnlyChoice b h p)

-- what is known of the choice for the test at a node: there is no such number, or this is the choice
abbrev pub IsChoiceOf : Body → (h node : ℕ) → Option Choice → Type 0
IsChoiceOf b h u o = MatchOption o ((n : ℕ) → ¬ CountsByNode b h u n) (λ k. (p : ℕ) × (u ≡ 2 * p) × IsOnlyChoice b h p k)

-- the number of the first value that leaves the loop, whether test or step comes first
abbrev pub IsFirstOutEither : Choice → (n : ℕ) → Type 0
IsFirstOutEither k n =
    IsFirstOut k.begin k.by (λ value. test_of k.out k.limit value) n ⊎ IsFirstOut (k.begin +ℤ k.by) k.by (λ value. test_of k.out k.limit value) n

-- the least number that is known or has the property
abbrev pub IsLeastBeside : Option ℕ → (ℕ → Type 0) → Option ℕ → Type 0
IsLeastBeside known P o = IsLeast (λ n. (known ≡ Some n) ⊎ P n) o

-- a number is known that is not above this one, if there is this one
abbrev pub IsSettled : (known soonest : Option ℕ) → Type 0
IsSettled known soonest = (n : ℕ) → soonest ≡ Some n → (m : ℕ) × (known ≡ Some m) × (m ≤ n)

-- what is known stays right where a number with the property was looked for, and is then the least one beside
pub record IsLookedAt (g : Digraph) (h : ℕ) (P : ℕ → Type 0) (old new : Known) : Type 0 where
  pub rest : IfSome old.rest (λ flags. IsRest g h flags.items) → IfSome new.rest (λ flags. IsRest g h flags.items)
  pub least : IfSome old.rest (λ flags. IsRest g h flags.items) → IsLeastBeside old.least P new.least

-- where the flag is set, the number of the first value that leaves the loop
abbrev pub IsFirstIf : Bool → (first : ℤ) → Choice → Option ℕ → Type 0
IsFirstIf is_first first k o = MatchBool is_first (IsFirst first k.by (λ value. test_of k.out k.limit value) o) (o ≡ None)
