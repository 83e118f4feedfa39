-- Which nodes are misplaced among the listed nodes and the loops of a section.
use Rattle.std.specs.Prelude.{◌≡◌, ◌≢◌, ℕ, ◌^◌, ◌-◌, ◌<◌, ◌≤◌, ℤ, pos, ◌<ℤ◌, true, List, length, slice_index_or, Contains, Option, Some, None}
use Rattle.loop_nest.specs.Digraph.{Digraph, Edge}
use Rattle.section_check.specs.Section.{Certified, CertifiedLoop, priced, start_value, listed}

-- entry i of a list is x
abbrev pub IsEntryAt : {X : Type 0} → List X → ℕ → X → Type 0
IsEntryAt xs i x = (i < length xs) × (slice_index_or xs i x ≡ x)

-- each member of the first loop is one of the second
abbrev pub LiesIn : CertifiedLoop → CertifiedLoop → Type 0
LiesIn l k = (x : ℕ) → Contains l.members x → Contains k.members x

-- the loops have a common member, and neither lies in the other
pub record AreCrossed (l k : CertifiedLoop) : Type 0 where
  pub common : ℕ
  pub first : Contains l.members common
  pub second : Contains k.members common
  pub not_in : ¬ LiesIn l k
  pub not_around : ¬ LiesIn k l

-- another loop than loop i has the header of l
pub record SharesHeader (ls : List CertifiedLoop) (i : ℕ) (l : CertifiedLoop) : Type 0 where
  pub place : ℕ
  pub other : CertifiedLoop
  pub at : IsEntryAt ls place other
  pub apart : place ≢ i
  pub same : other.header ≡ l.header

-- a loop crosses l
pub record CrossesAnother (ls : List CertifiedLoop) (l : CertifiedLoop) : Type 0 where
  pub other : CertifiedLoop
  pub among : Contains ls other
  pub crossed : AreCrossed l other

-- l lies in a region other than loop i
pub record LiesInRegion (ls : List CertifiedLoop) (i : ℕ) (l : CertifiedLoop) : Type 0 where
  pub place : ℕ
  pub other : CertifiedLoop
  pub at : IsEntryAt ls place other
  pub apart : place ≢ i
  pub region : other.region ≡ true
  pub within : LiesIn l other

-- what is wrong with loop i, which is l, among the loops, where the loads of each are given, and none for a region that doesn't fit
pub data IsFaulty (ls : List CertifiedLoop) (loads : List (Option ℕ)) (i : ℕ) (l : CertifiedLoop) : Type 0 where
  shares_header : SharesHeader ls i l → IsFaulty ls loads i l
  leaves_header_out : ¬ Contains l.members l.header → IsFaulty ls loads i l
  crosses_another : CrossesAnother ls l → IsFaulty ls loads i l
  does_not_fit : l.region ≡ true → IsEntryAt loads i None → IsFaulty ls loads i l
  lies_in_region : l.region ≡ true → LiesInRegion ls i l → IsFaulty ls loads i l

-- u heads a faulty loop
pub record HeadsFaulty (ls : List CertifiedLoop) (loads : List (Option ℕ)) (u : ℕ) : Type 0 where
  pub place : ℕ
  pub headed : CertifiedLoop
  pub at : IsEntryAt ls place headed
  pub header : headed.header ≡ u
  pub faulty : IsFaulty ls loads place headed

-- from u to v a loop is entered, and v is not its header
pub record EntersAside (ls : List CertifiedLoop) (u v : ℕ) : Type 0 where
  pub entered : CertifiedLoop
  pub among : Contains ls entered
  pub inside : Contains entered.members v
  pub outside : ¬ Contains entered.members u
  pub aside : v ≢ entered.header

-- a loop with another header holds node 0
pub record HoldsEntry (ls : List CertifiedLoop) : Type 0 where
  pub holder : CertifiedLoop
  pub among : Contains ls holder
  pub header : holder.header ≢ 0
  pub inside : Contains holder.members 0

-- u is a member of a loop
pub record IsInLoop (ls : List CertifiedLoop) (u : ℕ) : Type 0 where
  pub holder : CertifiedLoop
  pub among : Contains ls holder
  pub inside : Contains holder.members u

-- the value of the section exceeds 64 bits
pub record ExceedsLimit (c : Certified) (bounds : List ℕ) (loads : List (Option ℕ)) : Type 0 where
  pub value : ℤ
  pub is : start_value c (priced c.loops bounds loads) ≡ Some value
  pub exceeds : pos (2 ^ 64 - 1) <ℤ value

-- what is wrong with node u
pub data IsMisplaced (g : Digraph) (c : Certified) (bounds : List ℕ) (loads : List (Option ℕ)) (u : ℕ) : Type 0 where
  -- it is listed, or a member, and no node
  lists_no_node : Contains (listed c.nodes) u → g.nodes ≤ u → IsMisplaced g c bounds loads u
  holds_no_node : IsInLoop c.loops u → g.nodes ≤ u → IsMisplaced g c bounds loads u
  -- it heads two loops, a loop of which it is no member, a loop that crosses another, a region that doesn't fit, or a region that lies in another
  heads_faulty : HeadsFaulty c.loops loads u → IsMisplaced g c bounds loads u
  -- an edge leads from it into a loop from outside, and not to the header
  enters_aside : (v : ℕ) → Edge g u v → EntersAside c.loops u v → IsMisplaced g c bounds loads u
  -- it is the entry, and a loop with another header holds it, or the section's value is too large
  holds_entry : u ≡ 0 → HoldsEntry c.loops → IsMisplaced g c bounds loads u
  exceeds_limit : u ≡ 0 → ExceedsLimit c bounds loads → IsMisplaced g c bounds loads u

abbrev pub AreWellPlaced : Digraph → Certified → List ℕ → List (Option ℕ) → Type 0
AreWellPlaced g c bounds loads = (u : ℕ) → ¬ IsMisplaced g c bounds loads u
