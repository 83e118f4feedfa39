-- Numbers, of which each has a list of those directly above it.
use Rattle.std.specs.Prelude.{◌≡◌, ℕ, ◌<◌, false, List, [], ◌∷◌, ◌++◌, length, take, if◌then◌else◌, slice_index, IsTrue}
pub use Rattle.lists.specs.Numbers.{entry, IsSameSearch}
use Rattle.lists.specs.Numbers.{is_among, Falls}

-- the list with the number behind it, unless it has it
abbrev pub with_number : List ℕ → ℕ → List ℕ
with_number xs x = if is_among xs x then xs else xs ++ x ∷ []

-- what the table has for one of a number's numbers, it has for the number
abbrev pub IsTransitive : List (List ℕ) → Type 0
IsTransitive table = (x y z : ℕ) → IsTrue (is_among (entry table x) y) → IsTrue (is_among (entry table y) z) → IsTrue (is_among (entry table x) z)

-- which of these numbers the list has already, of those it has all that the table has for them
abbrev pub HasWhole : List (List ℕ) → (numbers : List ℕ) → List ℕ → Type 0
HasWhole table numbers xs = (t z : ℕ) → IsTrue (is_among numbers t) → IsTrue (is_among xs t) → IsTrue (is_among (entry table t) z) → IsTrue (is_among xs z)

-- each number stands behind all that are directly above it
abbrev pub IsOrdered : (above : List (List ℕ)) → List ℕ → Type 0
IsOrdered above order = (i d : ℕ) → i < length order → IsTrue (is_among (entry above (slice_index order i)) d) → IsTrue (is_among (take i order) d)

abbrev pub AreBelow : (most : ℕ) → List ℕ → Type 0
AreBelow most order = (c : ℕ) → IsTrue (is_among order c) → c < most

-- all places of the table are among them
abbrev pub HasAll : (most : ℕ) → List ℕ → Type 0
HasAll most order = (c : ℕ) → c < most → IsTrue (is_among order c)

-- numbers taken one after another, each behind all that are directly above it
pub record IsPeeled (above : List (List ℕ)) (order : List ℕ) : Type 0 where
  pub ordered : IsOrdered above order
  pub below : AreBelow (length above) order

-- the number is taken already, or one directly above it isn't
abbrev pub IsWaiting : (above : List (List ℕ)) → List ℕ → (number : ℕ) → Type 0
IsWaiting above order c = is_among order c ≡ false → (d : ℕ) × IsTrue (is_among (entry above c) d) × (is_among order d ≡ false)

-- none can be taken any more
abbrev pub IsStuck : (above : List (List ℕ)) → List ℕ → Type 0
IsStuck above order = (c : ℕ) → c < length above → IsWaiting above order c

-- there are ranks that fall upwards
abbrev pub HasRanks : (above : List (List ℕ)) → Type 0
HasRanks above = (ranks : List ℕ) × Falls (entry above) (λ c. slice_index ranks c) (length above)
