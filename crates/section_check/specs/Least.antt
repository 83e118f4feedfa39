-- Least numbers, and what the search for misplaced nodes finds of each kind.
use Rattle.std.specs.Prelude.{◌≡◌, ℕ, ◌<◌, ◌≤◌, ◌⊎◌, min, List, Contains, Option, Some, None}
use Rattle.loop_nest.specs.Digraph.{Digraph, Edge}
use Rattle.section_check.specs.Section.{Certified, CertifiedLoop}
use Rattle.section_check.specs.Placing.{IsInLoop, EntersAside, HoldsEntry, ExceedsLimit}

-- the least number with a property, or none where no number has it
abbrev pub IsLeast : (ℕ → Type 0) → Option ℕ → Type 0
IsLeast P None = (u : ℕ) → ¬ P u
IsLeast P (Some n) = P n × ((u : ℕ) → u < n → ¬ P u)

-- the lesser of two numbers, or the one that there is
abbrev pub lesser_of : Option ℕ → Option ℕ → Option ℕ
lesser_of None b = b
lesser_of (Some m) None = Some m
lesser_of (Some m) (Some n) = Some (min m n)

-- u is among these and not below n
abbrev pub IsBeyond : ℕ → List ℕ → ℕ → Type 0
IsBeyond n us u = Contains us u × (n ≤ u)

-- u is a member of a loop and not below n
abbrev pub IsMemberBeyond : ℕ → List CertifiedLoop → ℕ → Type 0
IsMemberBeyond n ls u = IsInLoop ls u × (n ≤ u)

-- an edge leads from u into a loop from outside, and not to the header
abbrev pub LeadsAside : Digraph → List CertifiedLoop → ℕ → Type 0
LeadsAside g ls u = (v : ℕ) × Edge g u v × EntersAside ls u v

-- u is the entry, and misplaced as such
abbrev pub IsWrongEntry : Certified → List ℕ → List (Option ℕ) → ℕ → Type 0
IsWrongEntry c bounds loads u = (u ≡ 0) × (HoldsEntry c.loops ⊎ ExceedsLimit c bounds loads)

-- the sets have a common number
abbrev pub Meet : List ℕ → List ℕ → Type 0
Meet us vs = (x : ℕ) × Contains us x × Contains vs x

-- each number of the first set is one of the second
abbrev pub IsSubset : List ℕ → List ℕ → Type 0
IsSubset us vs = (x : ℕ) → Contains us x → Contains vs x
