-- Which sets of a family split others that stand behind them in an order.
use Rattle.std.specs.Prelude.{◌≡◌, ℕ, ◌<◌, ◌≤◌, min, List, length, slice_index, All, Contains, Option, Some, None}
use Rattle.section_index.specs.Family.{set_at}
use Rattle.section_index.specs.Classes.{class_of, HasAlike}

-- set k has a number of set i and lacks another
pub record Splits (ss : List (List ℕ)) (k i : ℕ) : Type 0 where
  pub shared : ℕ
  pub lacked : ℕ
  pub in_both : Contains (set_at ss i) shared × Contains (set_at ss k) shared
  pub in_one : Contains (set_at ss i) lacked × (¬ Contains (set_at ss k) lacked)

-- among the first p sets of an order, set i is split by one before it, whose number is `last` at most
pub record IsSplitBelow (ss : List (List ℕ)) (order : List ℕ) (last p i : ℕ) : Type 0 where
  pub first : ℕ
  pub second : ℕ
  pub before : first < second
  pub below : second < p
  pub at : slice_index order second ≡ i
  pub low : slice_index order first ≤ last
  pub splits : Splits ss (slice_index order first) i

-- set i is split by one before it, whose number is `last` at most
abbrev pub IsSplit : List (List ℕ) → List ℕ → ℕ → ℕ → Type 0
IsSplit ss order last i = IsSplitBelow ss order last (length order) i

-- set k splits a set behind it
pub record SplitsLater (ss : List (List ℕ)) (order : List ℕ) (k : ℕ) : Type 0 where
  pub first : ℕ
  pub second : ℕ
  pub before : first < second
  pub below : second < length order
  pub at : slice_index order first ≡ k
  pub splits : Splits ss k (slice_index order second)

-- two numbers are in one class exactly where each of the first p sets of an order, of a number up to `last`, has both or neither
pub record AreClasses (ss : List (List ℕ)) (order : List ℕ) (last p size : ℕ) (cs : List ℕ) : Type 0 where
  pub long : length cs ≡ size
  pub alike : (x y q : ℕ) → x < size → y < size → class_of cs x ≡ class_of cs y → q < p → slice_index order q ≤ last
      → HasAlike (set_at ss (slice_index order q)) x y
  pub together : (x y : ℕ) → x < size → y < size → ((q : ℕ) → q < p → slice_index order q ≤ last → HasAlike (set_at ss (slice_index order q)) x y)
      → class_of cs x ≡ class_of cs y

-- all numbers of sets, those of larger sets first
pub record AreLargerFirst (ss : List (List ℕ)) (order : List ℕ) : Type 0 where
  pub within : All (λ i. i < length ss) order
  pub all : (i : ℕ) → i < length ss → Contains order i
  pub falling : (p q : ℕ) → p ≤ q → q < length order → length (set_at ss (slice_index order q)) ≤ length (set_at ss (slice_index order p))

-- the lesser of two numbers, of which there may be the second alone
abbrev pub lesser_of : Option ℕ → ℕ → ℕ
lesser_of None n = n
lesser_of (Some m) n = min m n
