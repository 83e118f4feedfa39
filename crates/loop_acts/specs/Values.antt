-- The first value that leaves a loop, by how far the values have moved from the first one.
use Rattle.std.specs.Prelude.{ℕ, ◌*◌, ◌<◌, ◌≤◌, ℤ, pos, ◌+ℤ◌, ◌-ℤ◌, Bool, true, false, Option, MatchOption}
use Rattle.loop_rules.specs.Values.{IsFirstOut}

-- the value at a distance from another one, above it or below
abbrev pub value_by : (up : Bool) → ℤ → ℕ → ℤ
value_by true first x = first +ℤ pos x
value_by false first x = first -ℤ pos x

-- after n steps the distance is the first of which this holds, and it is at most so great
pub record IsFirstMove (step room : ℕ) (Out : ℕ → Type 0) (n : ℕ) : Type 0 where
  pub within : n * step ≤ room
  pub out : Out (n * step)
  pub before : (k : ℕ) → k < n → ¬ Out (k * step)

-- so many steps, or none where no number of steps comes to such a distance
abbrev pub IsMove : (step room : ℕ) → (ℕ → Type 0) → Option ℕ → Type 0
IsMove step room Out o = MatchOption o ((n : ℕ) → ¬ IsFirstMove step room Out n) (IsFirstMove step room Out)

-- the number of the first value that leaves the loop, or none where none is the first
abbrev pub IsFirst : (first s : ℤ) → (ℤ → Bool) → Option ℕ → Type 0
IsFirst first s out o = MatchOption o ((n : ℕ) → ¬ IsFirstOut first s out n) (IsFirstOut first s out)
