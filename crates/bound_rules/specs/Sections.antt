-- The conditions on a section of a certificate, behind sections that were checked before it.
use Rattle.std.specs.Prelude.{◌≡◌, ◌≢◌, ◌⊎◌, ℕ, true, false, List, length, map, slice_index_or, Contains, Option, Some, None, IsSome, unwrap_or}
use Rattle.loop_nest.specs.Digraph.{Digraph}
use Rattle.section_check.specs.Section.{CertifiedLoop, PricedLoop, listed, priced}
use Rattle.section_check.specs.Placing.{IsEntryAt, IsInLoop}
use Rattle.section_check.specs.Conditions.{IsAccepted, value_of}
use Rattle.certificates.specs.declared.cert.CertSection.{CertSection}
use Rattle.bytecode_model.specs.Program.{Program, body_of}
use Rattle.method_flow.specs.Nodes.{Node, At, number_of, IsEdge, IsReached}
use Rattle.method_flow.specs.Calls.{IsCall, IsTarget}
use Rattle.method_flow.specs.Graphs.{IsGraphBy}
use Rattle.method_flow.specs.Keeping.{BoundOf}
use Rattle.method_flow.specs.declared.timing.Timing.{Timing}
use Rattle.bound_rules.specs.Costs.{added, AreCosts}
use Rattle.bound_rules.specs.Fitting.{LoopFits, loads_of, header_bound, header_bounds}
use Rattle.bound_rules.specs.Told.{Valued, TargetValues, IsTargetValue}

-- ---- the graph

-- an edge of a section's graph: behind an invoke where it is told of one of its targets that it is absent, or that it has a number
pub record IsSectionEdge (P : Program) (m : ℕ) (told : TargetValues) (u v : Node) : Type 0 where
  pub edge : IsEdge P m u v
  pub goes_on : (p q : ℕ) → u ≡ At p → v ≡ At q → IsCall P m p → (x : ℕ) × IsTarget P m p x × (told p x ≢ Some None)

-- a node that these edges reach from the first instruction
abbrev pub IsSectionNode : Program → (method : ℕ) → TargetValues → Node → Type 0
IsSectionNode P m told u = IsReached (IsSectionEdge P m told) u

-- what the invokes among the nodes are told
abbrev pub AreTargetValues : Program → Timing → (earlier : List Valued) → CertSection → TargetValues → Type 0
AreTargetValues P t earlier s told = (p x : ℕ) → IsSectionNode P s.method told (At p) → IsCall P s.method p → IsTarget P s.method p x
    → IsTargetValue P t earlier s p x (told p x)

-- ---- what is paid

-- what an entry of a loop of method m pays beside the loop's iterations: for a region the loads of the methods that may run there, and none where
-- these don't fit the cache together; for another loop 0
pub data IsEntryLoad (P : Program) (t : Timing) (m : ℕ) (l : CertifiedLoop) (fee : Option ℕ) : Type 0 where
  no_region : l.region ≡ false → fee ≡ Some 0 → IsEntryLoad P t m l fee
  fits : l.region ≡ true → (together : LoopFits P t m l.members) → fee ≡ Some (loads_of together) → IsEntryLoad P t m l fee
  exceeds : l.region ≡ true → ¬ LoopFits P t m l.members → fee ≡ None → IsEntryLoad P t m l fee

pub record AreEntryLoads (P : Program) (t : Timing) (s : CertSection) (fees : List (Option ℕ)) : Type 0 where
  pub long : length fees ≡ length s.section.loops
  pub each : (i : ℕ) (l : CertifiedLoop) → IsEntryAt s.section.loops i l → IsEntryLoad P t s.method l (slice_index_or fees i None)

-- the bounds of a section's loops, 0 where none is given
abbrev pub section_bounds : BoundOf → CertSection → List ℕ
section_bounds bound_of s = header_bounds bound_of s.method (map (λ l. l.header) s.section.loops)

-- its loops with all that they are charged
abbrev pub section_loops : BoundOf → CertSection → (fees : List (Option ℕ)) → List PricedLoop
section_loops bound_of s fees = priced s.section.loops (section_bounds bound_of s) fees

-- ---- how it is checked

-- the graph, the costs and the fees with which a section of a method with code is checked
pub record SectionView (P : Program) (t : Timing) (earlier : List Valued) (s : CertSection) : Type 0 where
  pub coded : IsSome (body_of P s.method)
  pub told : TargetValues
  pub are_told : AreTargetValues P t earlier s told
  pub graph : Digraph
  pub is_graph : IsGraphBy (IsSectionEdge P s.method told) P s.method graph
  pub costs : List ℕ
  pub are_costs : AreCosts P t s.method (IsSectionEdge P s.method told) (λ p. added P s.method p (λ x. unwrap_or (told p x) None)) graph costs
  pub fees : List (Option ℕ)
  pub are_fees : AreEntryLoads P t s fees

-- an invoke among the nodes may run x, which is absent
pub record IsLacking (P : Program) (m : ℕ) (told : TargetValues) (x : ℕ) : Type 0 where
  pub place : ℕ
  pub reached : IsSectionNode P m told (At place)
  pub call : IsCall P m place
  pub target : IsTarget P m place x
  pub absent : told place x ≡ None

-- u is listed, or a member of a loop, and is no node
pub record IsNoNode (P : Program) (s : CertSection) (told : TargetValues) (u : ℕ) : Type 0 where
  pub said : Contains (listed s.section.nodes) u ⊎ IsInLoop s.section.loops u
  pub none : (n : Node) → IsSectionNode P s.method told n → number_of n ≢ u

-- u heads a loop for which no bound is given
pub record LacksBound (bound_of : BoundOf) (s : CertSection) (u : ℕ) : Type 0 where
  pub headed : CertifiedLoop
  pub among : Contains s.section.loops headed
  pub header : headed.header ≡ u
  pub none : header_bound bound_of s.method u ≡ None

-- The section meets its conditions behind the earlier ones, and has this value: no target is absent, what is listed and held are nodes, each loop has
-- a bound, and the potentials are accepted.
pub record MeetsSection (P : Program) (t : Timing) (bound_of : BoundOf) (earlier : List Valued) (s : CertSection) (value : Option ℕ) : Type 0 where
  pub view : SectionView P t earlier s
  pub present : (x : ℕ) → ¬ IsLacking P s.method view.told x
  pub nodes : (u : ℕ) → ¬ IsNoNode P s view.told u
  pub bounded : (u : ℕ) → ¬ LacksBound bound_of s u
  pub accepted : IsAccepted view.graph view.costs s.section (section_bounds bound_of s) view.fees
  pub is : value ≡ value_of s.section (section_loops bound_of s view.fees)
