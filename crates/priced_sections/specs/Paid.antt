-- The conditions on a section whose facts have prices: those of a section, with what visits give back beside the potentials, and with dues among the loads.
use Rattle.std.specs.Prelude.{◌≡◌, ℕ, ◌^◌, ◌<◌, ℤ, pos, negsuc, ◌+ℤ◌, ◌≤ℤ◌, Bool, true, false, List, slice_index, All, Contains, Option, Some, None}
use Rattle.std.specs.Prelude.{option_map, IfSome}
use Rattle.loop_nest.specs.Digraph.{Digraph, Edge}
use Rattle.section_check.specs.Bounded.{holds}
use Rattle.section_check.specs.Section.{Certified, PricedLoop, priced, fee, headed_by, potential, start_value}
use Rattle.section_check.specs.Placing.{AreWellPlaced}
use Rattle.priced_sections.specs.Prices.{PricedFact, with_dues, own_due}

-- the loops of a section, whose entries pay loads and what is due there
abbrev pub paying : Certified → (bounds : List ℕ) → (loads : List (Option ℕ)) → List PricedFact → List PricedLoop
paying c bounds loads fs = with_dues fs (priced c.loops bounds loads)

-- an iteration of the loop is taken into account where the edge stays in it, and its fee where the edge enters it
abbrev pub PaysTo : Bool → PricedLoop → (cost credit : ℕ) → (p q : ℤ) → Type 0
PaysTo true l cost credit p q = (pos cost +ℤ q) ≤ℤ ((p +ℤ pos credit) +ℤ pos l.certified.iteration_cost)
PaysTo false l cost credit p q = ((pos cost +ℤ q) +ℤ pos (fee l)) ≤ℤ (p +ℤ pos credit)

-- the potentials p of u and q of v, where v heads this loop or none, and a visit of u gives so much back
abbrev pub Pays : Option PricedLoop → (cost credit u : ℕ) → (p q : ℤ) → Type 0
Pays None cost credit u p q = (pos cost +ℤ q) ≤ℤ (p +ℤ pos credit)
Pays (Some l) cost credit u p q = PaysTo (holds l.certified.members u) l cost credit p q

-- an edge to a node that isn't listed has no condition, and none leads from a node that isn't listed to one that is
abbrev pub PaysFrom : Option PricedLoop → (cost credit u : ℕ) → Option ℤ → Option ℤ → Type 0
PaysFrom l cost credit u p None = Unit {0}
PaysFrom l cost credit u None (Some q) = ⊥
PaysFrom l cost credit u (Some p) (Some q) = Pays l cost credit u p q

-- the condition of the edge from u to v, among loops with what is due at their entries
abbrev pub EdgePays : List ℕ → (credit : ℕ → ℕ) → Certified → List PricedLoop → ℕ → ℕ → Type 0
EdgePays costs credit c ls u v = PaysFrom (headed_by v ls) (slice_index costs u) (credit u) u (potential c.nodes u) (potential c.nodes v)

-- an exit is listed, and its potential with what a visit gives back covers its cost
abbrev pub CoversWith : (cost credit : ℕ) → Option ℤ → Type 0
CoversWith cost credit None = ⊥
CoversWith cost credit (Some p) = pos cost ≤ℤ (p +ℤ pos credit)

abbrev pub ExitPays : List ℕ → (credit : ℕ → ℕ) → Certified → ℕ → Type 0
ExitPays costs credit c u = CoversWith (slice_index costs u) (credit u) (potential c.nodes u)

-- the nodes are members of this loop
abbrev pub HoldsAll : Option PricedLoop → (nodes : List ℕ) → Type 0
HoldsAll None nodes = ⊥
HoldsAll (Some l) nodes = All (Contains l.certified.members) nodes

-- the header of each fact that has one heads a loop of the section whose members the nodes of the fact are
abbrev pub AreHeld : List PricedLoop → List PricedFact → Type 0
AreHeld ls fs = (f : PricedFact) (h : ℕ) → Contains fs f → f.header ≡ Some h → HoldsAll (headed_by h ls) f.nodes

-- a negative number counts as 0: costs aren't negative
abbrev pub at_least_zero : ℤ → ℕ
at_least_zero (pos n) = n
at_least_zero (negsuc n) = 0

-- the section's value, none exactly where node 0 isn't listed: the potential of node 0 with what the start costs, and what the activation pays
abbrev pub paid_value : Certified → List PricedLoop → List PricedFact → Option ℕ
paid_value c ls fs = option_map (λ z. at_least_zero (z +ℤ pos (own_due fs))) (start_value c ls)

-- what is asked of nodes: they are placed as in a section without prices, the facts are held, and the value keeps within 64 bits
pub record AreInPlace (g : Digraph) (c : Certified) (bounds : List ℕ) (loads : List (Option ℕ)) (fs : List PricedFact) : Type 0 where
  pub placed : AreWellPlaced g c bounds loads
  pub held : AreHeld (priced c.loops bounds loads) fs
  pub small : IfSome (paid_value c (paying c bounds loads fs) fs) (λ n. n < 2 ^ 64)

abbrev pub EdgesPay : Digraph → List ℕ → (credit : ℕ → ℕ) → Certified → List PricedLoop → Type 0
EdgesPay g costs credit c ls = (u v : ℕ) → Edge g u v → EdgePays costs credit c ls u v

abbrev pub ExitsPay : Digraph → List ℕ → (credit : ℕ → ℕ) → Certified → Type 0
ExitsPay g costs credit c = (u : ℕ) → Contains g.exits u → ExitPays costs credit c u

-- All conditions hold. What a visit gives back may have prices of other facts in it, which are paid elsewhere.
pub record IsPaid (g : Digraph) (costs : List ℕ) (credit : ℕ → ℕ) (c : Certified) (bounds : List ℕ) (loads : List (Option ℕ)) (fs : List PricedFact)
    : Type 0 where
  pub nodes : AreInPlace g c bounds loads fs
  pub edges : EdgesPay g costs credit c (paying c bounds loads fs)
  pub exits : ExitsPay g costs credit c
