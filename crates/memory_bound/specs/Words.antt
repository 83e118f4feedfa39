-- The words of objects that the nodes of a method may make.
use Rattle.std.specs.Prelude.{◌≡◌, ◌⊎◌, ℕ, ◌+◌, ◌*◌, ◌≤◌, ◌<◌, List, length, Contains, Option, Some, None, MatchOption, slice_index}
use Rattle.bytecode_model.specs.Program.{Program}
use Rattle.bytecode_model.specs.Rows.{Row}
use Rattle.method_flow.specs.Nodes.{Node, At, number_of}
use Rattle.method_flow.specs.Keeping.{BoundOf}
use Rattle.code_lines.specs.Lines.{IsLine}
use Rattle.memory_rules.specs.declared.sites.Makes.{Makes}
use Rattle.memory_rules.specs.declared.sites.Makes.TheVariants.{Object, Array}
use Rattle.memory_rules.specs.Heap.{made_by, constant_words, MostWords, OfNode}
use Rattle.memory_bound.specs.declared.found.Found.{Found}
use Rattle.memory_bound.specs.Found.{found_at, Exceeds, IsMostOr}

-- what is told of an instruction as words, where this length is given; 0 where there is none
abbrev pub told_words : Makes → (given : Option ℕ) → ℕ
told_words (Object words) given = words
told_words (Array element (Some c)) given = constant_words element c
told_words (Array element None) (Some n) = 2 + element * n
told_words (Array element None) None = 0

-- the most words that the instruction makes itself at once
pub record IsSiteWords (P : Program) (lengths : BoundOf) (m p words : ℕ) : Type 0 where
  pub attained : (words ≡ 0) ⊎ ((next : ℕ) × (r : Row) × IsLine P m p next r × MostWords P lengths m p (made_by P r) words)
  pub greatest : (next w : ℕ) (r : Row) → IsLine P m p next r → MostWords P lengths m p (made_by P r) w → w ≤ words

-- the greatest number of words of these methods; or one of them exceeds 64 bits
pub record IsGreatestOf (table : List Found) (targets : List ℕ) (words : ℕ) : Type 0 where
  pub attained : (words ≡ 0) ⊎ ((t : ℕ) × Contains targets t × ((found_at table t).heap ≡ Some words))
  pub greatest : (t : ℕ) → Contains targets t → (v : ℕ) × ((found_at table t).heap ≡ Some v) × (v ≤ words)

abbrev pub IsGreatestHeap : List Found → (targets : List ℕ) → Option ℕ → Type 0
IsGreatestHeap table targets o = MatchOption o ((t : ℕ) × Contains targets t × ((found_at table t).heap ≡ None)) (IsGreatestOf table targets)

-- what the instruction at the place makes, or the methods that it may run
abbrev pub IsPlaceWords : Program → (bounds lengths : BoundOf) → (method place : ℕ) → Option ℕ → Type 0
IsPlaceWords P bounds lengths m p o = IsMostOr P bounds lengths (OfNode m (At p)) o

-- what the node of this number makes
abbrev pub IsNodeWords : Program → (bounds lengths : BoundOf) → (method number : ℕ) → Option ℕ → Type 0
IsNodeWords P bounds lengths m x o = (u : Node) → number_of u ≡ x → IsMostOr P bounds lengths (OfNode m u) o

-- one of these nodes exceeds 64 bits
pub record SomeExceeds (P : Program) (bounds lengths : BoundOf) (m : ℕ) (nodes : List ℕ) : Type 0 where
  pub number : ℕ
  pub among : Contains nodes number
  pub exceeds : (u : Node) → number_of u ≡ number → Exceeds P bounds lengths (OfNode m u)

-- the words of each of these nodes
pub record AreNodeWords (P : Program) (bounds lengths : BoundOf) (m : ℕ) (nodes words : List ℕ) : Type 0 where
  pub long : length words ≡ length nodes
  pub each : (i : ℕ) → i < length nodes → IsNodeWords P bounds lengths m (slice_index nodes i) (Some (slice_index words i))
