-- What a section is checked with: its graph, its costs, and its nodes.
use Rattle.std.specs.Prelude.{◌≡◌, ◌≢◌, ◌↔◌, ◌⊎◌, ℕ, ◌+◌, ◌*◌, ◌<◌, Bool, true, false, ◌^◌, List, length, map, Contains, Some, None, slice_get, slice_index}
use Rattle.std.specs.Prelude.{unwrap_or}
use Rattle.std.specs.Option.{IsSomeAnd}
use Rattle.loop_nest.specs.Digraph.{Digraph, Edge}
use Rattle.section_check.specs.Least.{IsLeast}
use Rattle.section_check.specs.Placing.{IsInLoop}
use Rattle.section_check.specs.Section.{Certified, listed}
use Rattle.certificates.specs.declared.cert.CertSection.{CertSection}
use Rattle.bytecode_model.specs.Program.{Program}
use Rattle.method_flow.specs.Nodes.{Node, number_of}
use Rattle.method_flow.specs.Graphs.{IsGraphBy}
use Rattle.method_flow.specs.declared.flow.Call.{Call}
use Rattle.method_flow.specs.declared.timing.Timing.{Timing}
use Rattle.method_flow.specs.Flow.{Coded, IsCodedOf}
use Rattle.flow_graph.specs.Reach.{flag_at}
use Rattle.flow_graph.specs.Where.{IsEdgeWhere}
use Rattle.bound_rules.specs.Costs.{added, AreCosts}
use Rattle.bound_rules.specs.Told.{Valued, TargetValues}
use Rattle.bound_rules.specs.Sections.{IsSectionEdge, IsSectionNode, AreTargetValues, IsLacking}
use Rattle.cert_checker.specs.Setting.{CheckSetting}
use Rattle.cert_checker.specs.declared.prepared.Prepared.{Prepared}
use Rattle.cert_checker.specs.declared.summaries.Summary.{Summary}

-- the node is node 0, or an edge leads to it
abbrev pub IsComeTo : Digraph → ℕ → Type 0
IsComeTo g u = (u ≡ 0) ⊎ ((v : ℕ) × Edge g v u)

-- for each of the graph's nodes whether control comes to it
pub record AreComeTo (g : Digraph) (flags : List Bool) : Type 0 where
  pub long : length flags ≡ g.nodes
  pub each : (u : ℕ) → (flag_at flags u ≡ true) ↔ IsComeTo g u

-- costs to which so much is added at each of the calls
pub record AreCostsOf (own : List ℕ) (calls : List Call) (summaries : List Summary) (costs : List ℕ) : Type 0 where
  pub long : length costs ≡ length own
  pub at_calls : (i : ℕ) (c : Call) (s : Summary) → slice_get calls i ≡ Some c → slice_get summaries i ≡ Some s
      → slice_index costs (2 * c.place) ≡ slice_index own (2 * c.place) + s.added
  pub others : (u : ℕ) → u < length own → ((c : Call) → Contains calls c → u ≢ 2 * c.place) → slice_index costs u ≡ slice_index own u

-- a call to which control comes is told of x, the least of its targets that are absent
pub record IsAbsentAt (calls : List Call) (summaries : List Summary) (flags : List Bool) (x : ℕ) : Type 0 where
  pub index : ℕ
  pub call : Call
  pub summary : Summary
  pub call_is : slice_get calls index ≡ Some call
  pub summary_is : slice_get summaries index ≡ Some summary
  pub come_to : flag_at flags (2 * call.place) ≡ true
  pub absent : summary.absent ≡ Some x

-- what is added at each call keeps its cost within 64 bits
abbrev pub FitsLimit : List Call → List Summary → (own : List ℕ) → Type 0
FitsLimit calls summaries own =
    (i : ℕ) (c : Call) (s : Summary) → slice_get calls i ≡ Some c → slice_get summaries i ≡ Some s → slice_index own (2 * c.place) + s.added < 2 ^ 64

-- this holds of the section's method
abbrev pub OnMethod : CheckSetting → CertSection → (Coded → Type 0) → Type 0
OnMethod set s Holds = IsSomeAnd (slice_get set.flow.methods s.method) Holds

-- the graph of a method where its calls go on as they are told, the costs with what they are told, the nodes, and the least absent target
pub record IsPreparedWith (k : Coded) (own : List ℕ) (summaries : List Summary) (p : Prepared) : Type 0 where
  pub graph : (P : Program) (m : ℕ) → IsCodedOf P m k → IsGraphBy (IsEdgeWhere P m k.calls (map (λ s. s.goes_on) summaries)) P m p.graph
  pub costs : AreCostsOf own k.calls summaries p.costs.items
  pub nodes : AreComeTo p.graph p.nodes.items
  pub absent : IsLeast (IsAbsentAt k.calls summaries p.nodes.items) p.absent

-- the graph, the costs and the nodes by what invokes are told, and the least absent method that one may run
pub record IsPreparedBy (told : TargetValues) (P : Program) (t : Timing) (earlier : List Valued) (s : CertSection) (p : Prepared) : Type 0 where
  pub are_told : AreTargetValues P t earlier s told
  pub graph : IsGraphBy (IsSectionEdge P s.method told) P s.method p.graph
  pub costs : AreCosts P t s.method (IsSectionEdge P s.method told) (λ q. added P s.method q (λ x. unwrap_or (told q x) None)) p.graph p.costs.items
  pub nodes : (u : ℕ) → (flag_at p.nodes.items u ≡ true) ↔ ((n : Node) × IsSectionNode P s.method told n × (number_of n ≡ u))
  pub absent : IsLeast (IsLacking P s.method told) p.absent

pub record IsPrepared (P : Program) (t : Timing) (earlier : List Valued) (s : CertSection) (p : Prepared) : Type 0 where
  pub told : TargetValues
  pub by : IsPreparedBy told P t earlier s p

-- u is listed, or a member of a loop, and isn't flagged as a node
abbrev pub IsUnflagged : Certified → (flags : List Bool) → ℕ → Type 0
IsUnflagged c flags u = (Contains (listed c.nodes) u ⊎ IsInLoop c.loops u) × (flag_at flags u ≡ false)
