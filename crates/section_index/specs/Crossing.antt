-- Sets that cross: that are neither apart nor one within the other.
use Rattle.std.specs.Prelude.{ℕ, ◌<◌, List, length, Contains, Option, Some, None}
use Rattle.section_index.specs.Family.{set_at}

-- each number of the first set is one of the second
abbrev pub IsWithin : List ℕ → List ℕ → Type 0
IsWithin us vs = (x : ℕ) → Contains us x → Contains vs x

-- the sets have a common number, and neither is within the other
pub record AreCrossed (us vs : List ℕ) : Type 0 where
  pub common : ℕ
  pub first : Contains us common
  pub second : Contains vs common
  pub not_within : ¬ IsWithin us vs
  pub not_around : ¬ IsWithin vs us

-- set i crosses a set of the family
pub record CrossesAnother (ss : List (List ℕ)) (i : ℕ) : Type 0 where
  pub other : ℕ
  pub below : i < length ss
  pub among : other < length ss
  pub crossed : AreCrossed (set_at ss i) (set_at ss other)

-- the least number with a property, or none where no number has it
abbrev pub IsLeast : (ℕ → Type 0) → Option ℕ → Type 0
IsLeast P None = (u : ℕ) → ¬ P u
IsLeast P (Some n) = P n × ((u : ℕ) → u < n → ¬ P u)
