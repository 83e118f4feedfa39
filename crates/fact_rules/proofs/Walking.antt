-- Sections with prices bound walks that a run can take.
use Rattle.std.proofs.Common.{◌≡◌, ℕ, ◌+◌, ◌≤◌, ◌==◌, List, [], ◌∷◌, Contains, Option, Some, None, arith, refl, sym, ap, ◌∙◌, subst, MatchOption}
use Rattle.std.specs.Prelude.{if◌then◌else◌, flat_map, sum_by}
use Rattle.loop_nest.specs.Digraph.{Digraph, Edge}
use Rattle.loop_nest.specs.Walks.{Walk, KeepsBound}
use Rattle.loop_nest.specs.Walks.Walk.{stay, along}
use Rattle.section_check.specs.Bounded.{cost_of}
use Rattle.section_check.specs.Section.{PricedLoop}
use Rattle.section_check.specs.Laws.{loops_of}
use Rattle.bytecode_model.specs.Program.{Program}
use Rattle.method_flow.specs.Nodes.{Node, At, number_of, IsReached}
use Rattle.method_flow.specs.Nodes.IsReached.{first, later}
use Rattle.method_flow.specs.Live.{IsLiveEdge, LiveWalk}
use Rattle.method_flow.specs.Live.LiveWalk.{stops, along as walks_on}
use Rattle.method_flow.specs.Graphs.{IsLiveGraph}
use Rattle.method_flow.specs.Keeping.{BoundOf, WalkKeeps}
use Rattle.method_flow.specs.declared.timing.Timing.{Timing}
use Rattle.bound_rules.specs.Told.{Valued}
use Rattle.bound_rules.specs.Sections.{IsSectionNode, section_bounds, section_loops}
use Rattle.priced_cert.specs.declared.prices.RootPrice.{RootPrice}
use Rattle.priced_sections.specs.Prices.{PricedFact, credit_of}
use Rattle.priced_sections.specs.Laws.{PaidBoundWalks}
use Rattle.fact_rules.specs.Pricing.{PricedSection, Pricing, root_fact_of, with_price, own_facts, root_facts}
use Rattle.fact_rules.specs.Keeping.{WalkKeepsFacts}
use Rattle.fact_rules.specs.Sections.{MeetsPriced, AreMetPriced}
use Rattle.fact_rules.specs.Laws.{PricedLiveEdgesStay, PricedSectionsBoundWalks, OwnPricesBoundWalks}
use Rattle.fact_rules.proofs.Headers.{priced_headers_have_bounds, priced_at}
use Rattle.fact_rules.proofs.Facts.{own_fact_kept}

module _ (P : Program) (t : Timing) (bound_of : BoundOf) (q : Pricing) (earlier : List Valued) (s : PricedSection) (value : Option ℕ) (met : AreMetPriced P t bound_of q earlier) (h : MeetsPriced P t bound_of q earlier s value)
    (edges : PricedLiveEdgesStay) (part : Digraph) (is_live : IsLiveGraph P s.plain.method part) where
  live_node : {u : Node} → IsReached (IsLiveEdge P s.plain.method) u → IsSectionNode P s.plain.method h.view.told u
  live_node first = first
  live_node (later {u} {v} more e) = later (live_node more) (edges P t bound_of q earlier s value met h u v (live_node more) e)

  live_in_section : (u v : ℕ) → Edge part u v → Edge h.view.graph u v
  live_in_section u v e =
      let r = (is_live.edges u v).0 e in
      let reached = live_node r.reached in
      (h.view.is_graph.edges u v).1
      (record { source = r.source; target = r.target; reached = reached; edge = edges P t bound_of q earlier s value met h r.source r.target reached r.edge; numbered = r.numbered })

  -- the walk in the live graph, whose last node is an exit of the section's
  record InLive (u : Node) (us : List ℕ) : Type 0 where
    last : ℕ
    walk : Walk part (number_of u) last us
    exit : Contains h.view.graph.exits last

  in_live : {u : Node} {us : List ℕ} → LiveWalk P s.plain.method u us → IsReached (IsLiveEdge P s.plain.method) u → InLive u us
  in_live (stops {u} e) reached = record { last = number_of u; walk = stay; exit = (h.view.is_graph.exits (number_of u)).1 (record { node = u; reached = live_node reached; exit = e; numbered = refl }) }
  in_live (walks_on {u} {v} {ns} e more) reached =
      let rest = in_live more (later reached e) in
      record { last = rest.last; walk = along ((is_live.edges (number_of u) (number_of v)).1 (record { source = u; target = v; reached = reached; edge = e; numbered = (refl, refl) })) rest.walk; exit = rest.exit }

  -- the walk keeps the bound that is given for a loop of the section
  keeps_own : (ns : List ℕ) → WalkKeeps P bound_of s.plain.method ns → (l : PricedLoop) → Contains (section_loops bound_of s.plain h.view.fees) l → KeepsBound part l.certified.header l.bound ns
  keeps_own ns keeps l has =
      let at = priced_at s.plain.section.loops (section_bounds bound_of s.plain) h.view.fees l has in
      let b = priced_headers_have_bounds P t bound_of q earlier s value h at.place l.certified at.at in
      let k = keeps part is_live b.0 l.bound (b.2 ∙ ap (λ (n : ℕ). Some n) (sym at.bound)) in
      subst (λ (x : ℕ). KeepsBound part x l.bound ns) (sym b.1) k

  pub walk_bounded : PaidBoundWalks → (ns : List ℕ) → LiveWalk P s.plain.method (At 0) ns → WalkKeeps P bound_of s.plain.method ns → WalkKeepsFacts P q.facts s.plain.method ns
      → MatchOption value ⊥ (λ most. cost_of h.view.costs (loops_of s.plain.section (section_bounds bound_of s.plain) h.view.fees) ns ≤ most + sum_by (credit_of (root_facts q s.plain.method)) ns)
  walk_bounded law ns walk keeps facts =
      let w = in_live walk first in
      let other : ℕ → ℕ = λ u. credit_of (root_facts q s.plain.method) u in
      let most = law h.view.graph part h.view.costs other s.plain.section (section_bounds bound_of s.plain) h.view.fees (own_facts q.facts s) w.last ns h.paid live_in_section w.walk w.exit
      (λ l has header. keeps_own ns keeps l has) (λ f has. own_fact_kept P q.facts s part ns is_live facts f has)
      in
      subst (λ (o : Option ℕ). MatchOption o ⊥ (λ n. cost_of h.view.costs (loops_of s.plain.section (section_bounds bound_of s.plain) h.view.fees) ns ≤ n + sum_by other ns)) (sym h.is) most

pub priced_sections_bound_walks : PricedLiveEdgesStay → PaidBoundWalks → PricedSectionsBoundWalks
priced_sections_bound_walks edges law P t bound_of q earlier s value met h part is_live ns walk keeps facts = walk_bounded P t bound_of q earlier s value met h edges part is_live law ns walk keeps facts

-- ---- without prices in the root

nothing_back : (ns : List ℕ) → sum_by (credit_of []) ns ≡ 0
nothing_back [] = refl
nothing_back (n ∷ ns) = let e = nothing_back ns in omega (arith, e)

none_in_root : (q : Pricing) (m : ℕ) → q.root_prices ≡ [] → root_facts q m ≡ []
none_in_root q m none = ap (λ (xs : List RootPrice). flat_map (λ x. if x.method == m then with_price x.node None x.price (root_fact_of q x) else []) xs) none

by_value : (value : Option ℕ) (cost back : ℕ) → back ≡ 0 → MatchOption value ⊥ (λ most. cost ≤ most + back) → MatchOption value ⊥ (λ most. cost ≤ most)
by_value None cost back none h = h
by_value (Some n) cost back none h = omega arith

pub own_prices_bound_walks : PricedLiveEdgesStay → PaidBoundWalks → OwnPricesBoundWalks
own_prices_bound_walks edges law P t bound_of q earlier s value none met h part is_live ns walk keeps facts =
    let back : sum_by (credit_of (root_facts q s.plain.method)) ns ≡ 0 = ap (λ (fs : List PricedFact). sum_by (credit_of fs) ns) (none_in_root q s.plain.method none) ∙ nothing_back ns in
    by_value value (cost_of h.view.costs (loops_of s.plain.section (section_bounds bound_of s.plain) h.view.fees) ns) (sum_by (credit_of (root_facts q s.plain.method)) ns) back
    (priced_sections_bound_walks edges law P t bound_of q earlier s value met h part is_live ns walk keeps facts)
