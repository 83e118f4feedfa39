-- The conditions on a section: with them its potentials bound each walk.
use Rattle.std.specs.Prelude.{◌≡◌, ℕ, ◌<◌, ℤ, pos, negsuc, ◌+ℤ◌, ◌≤ℤ◌, Bool, true, false, List, slice_index, Contains, Option, Some, None, Result, Ok, Err}
use Rattle.loop_nest.specs.Digraph.{Digraph, Edge, IsBefore}
use Rattle.section_check.specs.declared.section.SectionFault.{SectionFault}
use Rattle.section_check.specs.declared.section.SectionFault.TheVariants as faults
use Rattle.section_check.specs.Bounded.{holds}
use Rattle.section_check.specs.Section.{Certified, PricedLoop, priced, fee, headed_by, potential, start_value}
use Rattle.section_check.specs.Placing.{IsMisplaced, AreWellPlaced}

-- an iteration of the loop is taken into account where the edge stays in it, and its fee where the edge enters it
abbrev pub DescendsTo : Bool → PricedLoop → (cost : ℕ) → (p q : ℤ) → Type 0
DescendsTo true l cost p q = (pos cost +ℤ q) ≤ℤ (p +ℤ pos l.certified.iteration_cost)
DescendsTo false l cost p q = ((pos cost +ℤ q) +ℤ pos (fee l)) ≤ℤ p

-- the potentials p of u and q of v, where v heads this loop or none
abbrev pub Descends : Option PricedLoop → (cost u : ℕ) → (p q : ℤ) → Type 0
Descends None cost u p q = (pos cost +ℤ q) ≤ℤ p
Descends (Some l) cost u p q = DescendsTo (holds l.certified.members u) l cost p q

-- an edge to a node that isn't listed has no condition, and none leads from a node that isn't listed to one that is
abbrev pub DescendsFrom : Option PricedLoop → (cost u : ℕ) → Option ℤ → Option ℤ → Type 0
DescendsFrom l cost u p None = Unit {0}
DescendsFrom l cost u None (Some q) = ⊥
DescendsFrom l cost u (Some p) (Some q) = Descends l cost u p q

-- the condition of the edge from u to v
abbrev pub EdgeHolds : List ℕ → Certified → List PricedLoop → ℕ → ℕ → Type 0
EdgeHolds costs c ls u v = DescendsFrom (headed_by v ls) (slice_index costs u) u (potential c.nodes u) (potential c.nodes v)

abbrev pub CoversCost : ℕ → Option ℤ → Type 0
CoversCost cost None = ⊥
CoversCost cost (Some p) = pos cost ≤ℤ p

-- an exit is listed, and its potential covers its cost
abbrev pub ExitHolds : List ℕ → Certified → ℕ → Type 0
ExitHolds costs c u = CoversCost (slice_index costs u) (potential c.nodes u)

abbrev pub EdgesHold : Digraph → List ℕ → Certified → List PricedLoop → Type 0
EdgesHold g costs c ls = (u v : ℕ) → Edge g u v → EdgeHolds costs c ls u v

abbrev pub ExitsHold : Digraph → List ℕ → Certified → Type 0
ExitsHold g costs c = (u : ℕ) → Contains g.exits u → ExitHolds costs c u

-- a number that isn't negative
abbrev pub natural : ℤ → Option ℕ
natural (pos n) = Some n
natural (negsuc n) = None

abbrev pub natural_of : Option ℤ → Option ℕ
natural_of None = None
natural_of (Some z) = natural z

-- the section's value
abbrev pub value_of : Certified → List PricedLoop → Option ℕ
value_of c ls = natural_of (start_value c ls)

-- all conditions hold
pub record IsAccepted (g : Digraph) (costs : List ℕ) (c : Certified) (bounds : List ℕ) (loads : List (Option ℕ)) : Type 0 where
  pub placed : AreWellPlaced g c bounds loads
  pub edges : EdgesHold g costs c (priced c.loops bounds loads)
  pub exits : ExitsHold g costs c

-- the first node that is misplaced
pub record IsFirstMisplaced (g : Digraph) (c : Certified) (bounds : List ℕ) (loads : List (Option ℕ)) (u : ℕ) : Type 0 where
  pub misplaced : IsMisplaced g c bounds loads u
  pub first : (x : ℕ) → x < u → ¬ IsMisplaced g c bounds loads x

-- the first edge whose condition fails
pub record IsFirstFailingEdge (g : Digraph) (costs : List ℕ) (c : Certified) (ls : List PricedLoop) (u v : ℕ) : Type 0 where
  pub edge : Edge g u v
  pub fails : ¬ EdgeHolds costs c ls u v
  pub first : (x y : ℕ) → Edge g x y → IsBefore (x, y) (u, v) → EdgeHolds costs c ls x y

-- the first exit whose condition fails
pub record IsFirstFailingExit (g : Digraph) (costs : List ℕ) (c : Certified) (u : ℕ) : Type 0 where
  pub exit : Contains g.exits u
  pub fails : ¬ ExitHolds costs c u
  pub first : (x : ℕ) → Contains g.exits x → x < u → ExitHolds costs c x

-- the answer to a section: its value, or the first condition that fails. Those on nodes come before those on edges, and these before those on exits.
abbrev pub IsSectionAnswer : Digraph → List ℕ → Certified → List ℕ → List (Option ℕ) → Result (Option ℕ) SectionFault → Type 0
IsSectionAnswer g costs c bounds loads (Ok value) = IsAccepted g costs c bounds loads × (value ≡ value_of c (priced c.loops bounds loads))
IsSectionAnswer g costs c bounds loads (Err (faults.Member u)) = IsFirstMisplaced g c bounds loads u
IsSectionAnswer g costs c bounds loads (Err (faults.Edge u v)) = AreWellPlaced g c bounds loads × IsFirstFailingEdge g costs c (priced c.loops bounds loads) u v
IsSectionAnswer g costs c bounds loads (Err (faults.Exit u)) = AreWellPlaced g c bounds loads × EdgesHold g costs c (priced c.loops bounds loads)
    × IsFirstFailingExit g costs c u
