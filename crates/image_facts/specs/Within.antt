-- Words that lie among other words.
use Rattle.std.specs.Prelude.{◌≡◌, ℕ, ◌++◌, List, length}

-- these words lie in the list from the place on
pub record LieAt (whole : List ℕ) (place : ℕ) (words : List ℕ) : Type 0 where
  pub before : List ℕ
  pub after : List ℕ
  pub split : whole ≡ before ++ (words ++ after)
  pub place_is : length before ≡ place

-- from the place on, the other list has words in place of these, and else it is the same
pub record DifferAt (whole other : List ℕ) (place : ℕ) (words instead : List ℕ) : Type 0 where
  pub before : List ℕ
  pub after : List ℕ
  pub split : whole ≡ before ++ (words ++ after)
  pub changed : other ≡ before ++ (instead ++ after)
  pub place_is : length before ≡ place
