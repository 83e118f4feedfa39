-- Numbers in classes, which sets split.
use Rattle.std.specs.Prelude.{◌≡◌, ◌≢◌, ℕ, ◌+◌, ◌<◌, ◌↔◌, List, length, slice_index, Contains}

-- the class of number x
abbrev pub class_of : List ℕ → ℕ → ℕ
class_of cs x = slice_index cs x

-- all numbers of a set are in one class
abbrev pub AreTogether : List ℕ → List ℕ → Type 0
AreTogether cs set = (x y : ℕ) → Contains set x → Contains set y → class_of cs x ≡ class_of cs y

-- two numbers of a set are in different classes
pub record AreApart (cs set : List ℕ) : Type 0 where
  pub one : ℕ
  pub other : ℕ
  pub has_one : Contains set one
  pub has_other : Contains set other
  pub apart : class_of cs one ≢ class_of cs other

-- a set has both numbers or neither
abbrev pub HasAlike : List ℕ → ℕ → ℕ → Type 0
HasAlike set x y = Contains set x ↔ Contains set y

-- after a split by a set, two numbers are in one class exactly where they were before, and the set has both or neither
pub record IsSplitBy (set old new : List ℕ) : Type 0 where
  pub long : length new ≡ length old
  pub before : (x y : ℕ) → x < length old → y < length old → class_of new x ≡ class_of new y → class_of old x ≡ class_of old y
  pub alike : (x y : ℕ) → x < length old → y < length old → class_of new x ≡ class_of new y → HasAlike set x y
  pub after : (x y : ℕ) → x < length old → y < length old → class_of old x ≡ class_of old y → HasAlike set x y → class_of new x ≡ class_of new y

-- for the class of x, the place in a set of a number of that class
pub record HasPlace (set cs places : List ℕ) (high x : ℕ) : Type 0 where
  pub below : slice_index places (class_of cs x) < high
  pub same : class_of cs (slice_index set (slice_index places (class_of cs x))) ≡ class_of cs x

-- for the class of each number of a set, the place in the set of a number of that class
abbrev pub ArePlaces : (set cs places : List ℕ) → Type 0
ArePlaces set cs places = (x : ℕ) → Contains set x → HasPlace set cs places (length set) x

-- the numbers of a set are put into classes from `base` on, by these places, and the others stay
pub record AreMoved (set places : List ℕ) (base : ℕ) (old new : List ℕ) : Type 0 where
  pub long : length new ≡ length old
  pub moved : (x : ℕ) → Contains set x → class_of new x ≡ base + slice_index places (class_of old x)
  pub stay : (x : ℕ) → ¬ Contains set x → class_of new x ≡ class_of old x
