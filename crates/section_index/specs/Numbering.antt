-- Numbers among which the members of a section's loops stand, and the loops that hold each number.
use Rattle.std.specs.Prelude.{◌≡◌, ℕ, ◌<◌, List, [], length, slice_index, slice_index_or, Contains}
use Rattle.std.specs.List.Sorted.{IsStrictlyIncreasing}
use Rattle.section_index.specs.Family.{set_at}
use Rattle.section_check.specs.Section.{CertifiedLoop}
use Rattle.section_check.specs.Placing.{IsEntryAt, CrossesAnother}

-- numbers that rise, among them each member of a loop
pub record AreNumbers (ls : List CertifiedLoop) (ns : List ℕ) : Type 0 where
  pub rising : IsStrictlyIncreasing ns
  pub all : (i : ℕ) (l : CertifiedLoop) (x : ℕ) → IsEntryAt ls i l → Contains l.members x → Contains ns x

-- the numbers below n, rising
pub record AreNodes (n : ℕ) (ns : List ℕ) : Type 0 where
  pub long : length ns ≡ n
  pub each : (k : ℕ) → k < n → slice_index ns k ≡ k

-- a number stands at place p
pub record IsPlaced (ns : List ℕ) (u p : ℕ) : Type 0 where
  pub below : p < length ns
  pub is : slice_index ns p ≡ u

-- the places of members among the numbers
pub record ArePlaces (ns ms ps : List ℕ) : Type 0 where
  pub long : length ps ≡ length ms
  pub each : (k : ℕ) → k < length ms → IsPlaced ns (slice_index ms k) (slice_index ps k)

-- for each loop the places of its members
pub record ArePlaced (ns : List ℕ) (ls : List CertifiedLoop) (ss : List (List ℕ)) : Type 0 where
  pub long : length ss ≡ length ls
  pub each : (i : ℕ) (l : CertifiedLoop) → IsEntryAt ls i l → ArePlaces ns l.members (set_at ss i)

-- pairs of a set and one of its numbers
pub record ArePairs (ss : List (List ℕ)) (es : List (ℕ × ℕ)) : Type 0 where
  pub from : (i p : ℕ) → Contains es (i, p) → (i < length ss) × Contains (set_at ss i) p
  pub all : (i p : ℕ) → i < length ss → Contains (set_at ss i) p → Contains es (i, p)

-- for each number the loops that hold it
pub record AreHolders (ns : List ℕ) (ls : List CertifiedLoop) (hs : List (List ℕ)) : Type 0 where
  pub long : length hs ≡ length ns
  pub within : (p i : ℕ) → p < length ns → Contains (slice_index_or hs p []) i → i < length ls
  pub holds : (p i : ℕ) (l : CertifiedLoop) → p < length ns → IsEntryAt ls i l → Contains (slice_index_or hs p []) i → Contains l.members (slice_index ns p)
  pub held : (p i : ℕ) (l : CertifiedLoop) → p < length ns → IsEntryAt ls i l → Contains l.members (slice_index ns p) → Contains (slice_index_or hs p []) i

-- loop i crosses another
abbrev pub Crosses : List CertifiedLoop → ℕ → Type 0
Crosses ls i = (l : CertifiedLoop) × IsEntryAt ls i l × CrossesAnother ls l
