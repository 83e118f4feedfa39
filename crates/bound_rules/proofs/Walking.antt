-- Sections that meet their conditions bound walks that a run can take.
use Rattle.std.proofs.Common.{ℕ, ◌≤◌, List, Contains, Option, Some, refl, sym, ap, ◌∙◌, subst, MatchOption}
use Rattle.loop_nest.specs.Digraph.{Digraph, Edge}
use Rattle.loop_nest.specs.Walks.{Walk, KeepsBound}
use Rattle.loop_nest.specs.Walks.Walk.{stay, along}
use Rattle.section_check.specs.Bounded.{cost_of}
use Rattle.section_check.specs.Section.{PricedLoop}
use Rattle.section_check.specs.Laws.{loops_of, OwnBoundsSuffice, AcceptedBoundWalks}
use Rattle.certificates.specs.declared.cert.CertSection.{CertSection}
use Rattle.bytecode_model.specs.Program.{Program}
use Rattle.method_flow.specs.Nodes.{Node, At, number_of, IsReached}
use Rattle.method_flow.specs.Nodes.IsReached.{first, later}
use Rattle.method_flow.specs.Live.{IsLiveEdge, LiveWalk}
use Rattle.method_flow.specs.Live.LiveWalk.{stops, along as walks_on}
use Rattle.method_flow.specs.Graphs.{IsGraphBy, IsLiveGraph}
use Rattle.method_flow.specs.Keeping.{BoundOf, WalkKeeps}
use Rattle.method_flow.specs.declared.timing.Timing.{Timing}
use Rattle.bound_rules.specs.Told.{Valued}
use Rattle.bound_rules.specs.Sections.{IsSectionEdge, IsSectionNode, section_bounds, section_loops, MeetsSection}
use Rattle.bound_rules.specs.Met.{AreMet}
use Rattle.bound_rules.specs.Laws.{LiveEdgesStay, SectionsBoundWalks}
use Rattle.bound_rules.proofs.Headers.{headers_have_bounds, priced_at}

-- ---- a walk of some edges in their graph

module _ (IsEdgeIn : Node → Node → Type 0) (P : Program) (m : ℕ) (g : Digraph) (graph : IsGraphBy IsEdgeIn P m g) (live : (u v : Node) → IsReached IsEdgeIn u → IsLiveEdge P m u v → IsEdgeIn u v) where
  -- the walk with its last node, which is an exit
  pub record InGraph (u : Node) (us : List ℕ) : Type 0 where
    pub last : ℕ
    pub walk : Walk g (number_of u) last us
    pub exit : Contains g.exits last

  pub in_graph : {u : Node} {us : List ℕ} → LiveWalk P m u us → IsReached IsEdgeIn u → InGraph u us
  in_graph (stops {u} e) reached = record { last = number_of u; walk = stay; exit = (graph.exits (number_of u)).1 (record { node = u; reached = reached; exit = e; numbered = refl }) }
  in_graph (walks_on {u} {v} {ns} e more) reached =
      let edge = live u v reached e in
      let rest = in_graph more (later reached edge) in
      record { last = rest.last; walk = along ((graph.edges (number_of u) (number_of v)).1 (record { source = u; target = v; reached = reached; edge = edge; numbered = (refl, refl) })) rest.walk; exit = rest.exit }

-- ---- the value bounds the walk

module _ (P : Program) (t : Timing) (bound_of : BoundOf) (earlier : List Valued) (s : CertSection) (value : Option ℕ) (met : AreMet P t bound_of earlier) (h : MeetsSection P t bound_of earlier s value) (edges : LiveEdgesStay) where
  live_node : {u : Node} → IsReached (IsLiveEdge P s.method) u → IsSectionNode P s.method h.view.told u
  live_node first = first
  live_node (later {u} {v} more e) = later (live_node more) (edges P t bound_of earlier s value met h u v (live_node more) e)

  live_in_section : (part : Digraph) → IsLiveGraph P s.method part → (u v : ℕ) → Edge part u v → Edge h.view.graph u v
  live_in_section part is_live u v e =
      let r = (is_live.edges u v).0 e in
      let reached = live_node r.reached in
      (h.view.is_graph.edges u v).1 (record { source = r.source; target = r.target; reached = reached; edge = edges P t bound_of earlier s value met h r.source r.target reached r.edge; numbered = r.numbered })

  -- the walk keeps the bound that is given for a loop of the section
  keeps_own : (part : Digraph) → IsLiveGraph P s.method part → (ns : List ℕ) → WalkKeeps P bound_of s.method ns → (l : PricedLoop) → Contains (section_loops bound_of s h.view.fees) l
      → KeepsBound part l.certified.header l.bound ns
  keeps_own part is_live ns keeps l has =
      let at = priced_at s.section.loops (section_bounds bound_of s) h.view.fees l has in
      let b = headers_have_bounds P t bound_of earlier s value h at.place l.certified at.at in
      let k = keeps part is_live b.0 l.bound (b.2 ∙ ap (λ (n : ℕ). Some n) (sym at.bound)) in
      subst (λ (x : ℕ). KeepsBound part x l.bound ns) (sym b.1) k

  pub walk_bounded : OwnBoundsSuffice → AcceptedBoundWalks → (part : Digraph) → IsLiveGraph P s.method part → (ns : List ℕ) → LiveWalk P s.method (At 0) ns → WalkKeeps P bound_of s.method ns
      → MatchOption value ⊥ (λ most. cost_of h.view.costs (loops_of s.section (section_bounds bound_of s) h.view.fees) ns ≤ most)
  walk_bounded own accepted part is_live ns walk keeps =
      let in_section = in_graph (IsSectionEdge P s.method h.view.told) P s.method h.view.graph h.view.is_graph (edges P t bound_of earlier s value met h) walk first in
      let in_live = in_graph (IsLiveEdge P s.method) P s.method part is_live (λ u v reached e. e) walk first in
      let kept = own h.view.graph part s.section (section_bounds bound_of s) h.view.fees h.accepted.placed (live_in_section part is_live) in_live.last ns in_live.walk (λ l has header. keeps_own part is_live ns keeps l has) in
      let most = accepted h.view.graph h.view.costs s.section (section_bounds bound_of s) h.view.fees h.accepted ns (record { last = in_section.last; walk = in_section.walk; exit = in_section.exit; kept = kept }) in
      subst (λ (o : Option ℕ). MatchOption o ⊥ (λ most. cost_of h.view.costs (loops_of s.section (section_bounds bound_of s) h.view.fees) ns ≤ most)) (sym h.is) most

pub sections_bound_walks : LiveEdgesStay → OwnBoundsSuffice → AcceptedBoundWalks → SectionsBoundWalks
sections_bound_walks edges own accepted P t bound_of earlier s value met h part is_live ns walk keeps = walk_bounded P t bound_of earlier s value met h edges own accepted part is_live ns walk keeps
