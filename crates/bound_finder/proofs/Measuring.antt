-- What walks cost is told by the costs of nodes: those that are limited, and those of a family of numbers.
use Rattle.std.proofs.Common.{◌≡◌, ℕ, ◌+◌, ◌<◌, ◌≤◌, Bool, true, false, List, [], ◌∷◌, Contains, sum_by, Option, slice_index, sym, ap, ◌∙◌, subst, inl, inr, arith}
use Rattle.std.specs.Prelude.{unwrap_or}
use Rattle.std.proofs.lemmas.List.{get_or-map}
use Rattle.std.proofs.lemmas.List.Sums.{sum_by-cons}
use Rattle.lists.specs.Members.{at_head, in_tail, cons_cases, nil_contains, place_of, contains_at}
use Rattle.loop_nest.specs.Walks.{Walk}
use Rattle.loop_nest.specs.Walks.Walk.{stay, along}
use Rattle.loop_nest.proofs.Ends.{walk_on}
use Rattle.loop_nest.specs.Nest.{IsNest}
use Rattle.section_check.specs.Bounded.{BoundedLoop, IsBoundedWalk}
use Rattle.section_check.specs.Renumbering.{AreMovedCosts}
use Rattle.path_solver.specs.Laws.{LiesOnBoundedWalk}
use Rattle.path_solver.specs.Longest.{bounded_loops}
use Rattle.path_solver.specs.Reaching.{ReachesExit}
use Rattle.path_solver.specs.Regions.{charged}
use Rattle.bytecode_model.specs.Program.{Program}
use Rattle.method_flow.specs.Calls.{IsTarget, targets_of}
use Rattle.method_flow.specs.Costs.{IsOwnCost}
use Rattle.method_flow.specs.Keeping.{BoundOf}
use Rattle.method_flow.specs.Kinds.{CallsAreInvokes}
use Rattle.method_flow.specs.Live.{IsLiveEdge}
use Rattle.method_flow.specs.Nodes.{Node, At, RaiseAt, number_of, IsReached}
use Rattle.method_flow.specs.Nodes.IsReached.{later}
use Rattle.method_flow.specs.Regions.{load}
use Rattle.method_flow.specs.declared.timing.Timing.{Timing}
use Rattle.flow_graph.proofs.Starting.{target_calls}
use Rattle.bound_rules.specs.Costs.{greatest_of}
use Rattle.bound_rules.specs.Laws.{ValuesAreTold, IterationsAreTold, HeadersAreInstructions}
use Rattle.bound_rules.specs.Numbers.{LiveNest, charged_loops}
use Rattle.compact_walks.specs.Laws.{GraphsAreMoved, MovedReachesExit, MovedIsNest, MovedIsGreatest, MovedWalkExceeds, MovedIterationsExceed}
use Rattle.compact_walks.specs.Limited.{cycles_limit, SomeExceeds}
use Rattle.compact_walks.specs.Moving.{IsMoved}
use Rattle.bound_finder.specs.declared.known.Known.{Known}
use Rattle.bound_finder.specs.declared.prepared.Prepared.{Prepared}
use Rattle.bound_finder.specs.Known.{known_at}
use Rattle.bound_finder.specs.Telling.{with_back}
use Rattle.bound_finder.specs.Prepared.{node_of, nest_of, adds_by, is_without, IsPreparedFor}
use Rattle.bound_finder.specs.Found.{costs_of}
use Rattle.bound_finder.proofs.Limiting.{large_is}
use Rattle.bound_finder.proofs.Raising.{call_on_walk}
use Rattle.bound_finder.proofs.Reached.{reachable, node_of_number, reachable_out}

-- ---- what is used of graphs

pub record AreWalkLaws : Type 0 where
  pub graphs : GraphsAreMoved
  pub exits : MovedReachesExit
  pub nests : MovedIsNest
  pub greatest : MovedIsGreatest
  pub walks : MovedWalkExceeds
  pub iterations : MovedIterationsExceed
  pub values_told : ValuesAreTold
  pub iterations_told : IterationsAreTold
  pub invokes : CallsAreInvokes
  pub headers : HeadersAreInstructions
  pub lies : LiesOnBoundedWalk

-- own costs are within 64 bits
abbrev pub OwnAreSmall : Program → Timing → (method : ℕ) → Type 0
OwnAreSmall P t m = (u : Node) (own : ℕ) → IsOwnCost P t m u own → own < cycles_limit

-- ---- sums

pub sum_most : (f g : ℕ → ℕ) (xs : List ℕ) → ((x : ℕ) → Contains xs x → f x ≤ g x) → sum_by f xs ≤ sum_by g xs
sum_most f g [] each = omega arith
sum_most f g (x ∷ xs) each = let rest = sum_most f g xs (λ y has. each y (in_tail x y xs has)) in let here = each x (at_head x xs) in omega (arith, sum_by-cons f x xs, sum_by-cons g x xs)

-- a number that isn't 0 is that of one of them
some_value : (f : ℕ → Option ℕ) (xs : List ℕ) → 0 < unwrap_or (greatest_of f xs) 0 → (x : ℕ) × Contains xs x
some_value f [] more = absurd (omega arith)
some_value f (x ∷ xs) more = (x, at_head x xs)

module _ (laws : AreWalkLaws) (P : Program) (t : Timing) (bound_of : BoundOf) (table : List Known) (m : ℕ) (p : Prepared) (h : IsPreparedFor P t bound_of table m p) (small : OwnAreSmall P t m) where
  abbrev pub fees_in : List ℕ
  fees_in = charged p.charges.loads.items p.charges.flags.items

  abbrev pub loops_in : List BoundedLoop
  loops_in = bounded_loops (nest_of p.shape) p.bounds.items fees_in

  pub is_moved : IsMoved h.graph p.shape.graph (node_of p.shape)
  is_moved = laws.graphs P m h.graph p.shape.graph (node_of p.shape) (inr h.is_live) h.shape.compact

  pub nest_in : IsNest h.graph (nest_of p.shape)
  nest_in = laws.nests h.graph p.shape.graph (node_of p.shape) is_moved p.shape.nest h.shape.nest

  abbrev pub live_nest : LiveNest P bound_of m
  live_nest = record { graph = h.graph; is_live = h.is_live; nest = nest_of p.shape; is_nest = nest_in; bounded = h.bounds.bounded }

  pub loops_are : charged_loops live_nest fees_in ≡ loops_in
  loops_are = ap (λ (bs : List ℕ). bounded_loops (nest_of p.shape) bs fees_in) (sym h.bounds.are)

  -- ---- nodes

  pub in_nodes : (u : Node) → IsReached (IsLiveEdge P m) u → Contains p.shape.nodes (number_of u)
  in_nodes u reached =
      let r = h.shape.compact.all (number_of u) (reachable P m h.graph h.is_live reached) in
      let below = r.1 in
      let long = h.shape.long in
      contains_at p.shape.nodes r.0 (number_of u) (omega arith) r.2

  pub from_nodes : (x : ℕ) → Contains p.shape.nodes x → (u : Node) × IsReached (IsLiveEdge P m) u × (x ≡ number_of u)
  from_nodes x has =
      let at = place_of p.shape.nodes x has in
      let below = at.1 in
      let long = h.shape.long in
      let reach = reachable_out h.graph p.shape.graph (node_of p.shape) h.shape.compact at.0 (omega arith) in
      let r = node_of_number P m h.graph h.is_live (node_of p.shape at.0) reach in
      (r.0, r.1, sym at.2 ∙ r.2)

  pub moved_costs : AreMovedCosts p.shape.graph (node_of p.shape) (costs_of p) p.costs.items
  moved_costs u below = let long = h.shape.long in sym (get_or-map (λ (x : ℕ). slice_index p.costs.items x) p.shape.nodes u 0 0 (omega arith))

  -- a node of a walk from a node that is reached is reached
  pub on_walk : {u v : ℕ} {ns : List ℕ} → Walk h.graph u v ns → (n : Node) → IsReached (IsLiveEdge P m) n → u ≡ number_of n → (x : ℕ) → Contains ns x → (k : Node) × IsReached (IsLiveEdge P m) k × (x ≡ number_of k)
  on_walk (stay {u}) n reached is x has = elim (cons_cases u x [] has) [ inl here ↦ (n, reached, sym here ∙ is) | inr none ↦ absurd (nil_contains x none) ]
  on_walk (along {u} {v} {ns = ns} e more) n reached is x has =
      let r = (h.is_live.edges u v).0 e in
      elim (cons_cases u x ns has) [ inl here ↦ (n, reached, sym here ∙ is) | inr there ↦ on_walk more r.target (later r.reached r.edge) r.numbered.1 x there ]

  -- an exit is reached from each node of the compact graph, or from none
  pub exit_from_entry : (u : ℕ) → ReachesExit p.shape.graph u → ReachesExit p.shape.graph 0
  exit_from_entry u reach =
      let before = h.shape.compact.reached u (below reach.walk reach.among) in
      let w = walk_on before.1 reach.walk in
      record { exit = reach.exit; among = reach.among; nodes = w.0; walk = w.1 }
    where
      below : {a b : ℕ} {ns : List ℕ} → Walk p.shape.graph a b ns → Contains p.shape.graph.exits b → a < p.shape.graph.nodes
      below (stay {u}) exit = ((h.shape.compact.exits u).0 exit).0
      below (along {u} {v} e more) exit = ((h.shape.compact.edges u v).0 e).0

  -- ---- a node that costs too much

  pub record IsDearWalk : Type 0 where
    pub node : Node
    pub reached : IsReached (IsLiveEdge P m) node
    pub large : cycles_limit ≤ slice_index p.costs.items (number_of node)
    pub walk : List ℕ
    pub bounded : IsBoundedWalk h.graph loops_in walk
    pub has : Contains walk (number_of node)

  -- it lies on a walk that keeps the bounds
  pub dear_walk : SomeExceeds p.shape.nodes p.costs.items → IsDearWalk
  dear_walk e =
      let r = from_nodes e.node e.among in
      let large : cycles_limit ≤ slice_index p.costs.items (number_of r.0) = subst (λ (x : ℕ). cycles_limit ≤ slice_index p.costs.items x) r.2 e.exceeds in
      by r.0 r.1 large
    where
      target : (b : Bool) (q : ℕ) → 0 < adds_by P t table m b q → (x : ℕ) × IsTarget P m q x
      target true q more = some_value (λ x. (known_at table x).asked) (targets_of P m q) more
      target false q more = some_value (λ x. with_back (load P t.read m) (known_at table x).full) (targets_of P m q) more

      by : (u : Node) → IsReached (IsLiveEdge P m) u → cycles_limit ≤ slice_index p.costs.items (number_of u) → IsDearWalk
      by (At q) reached large =
          let cost = h.costs.each (At q) reached in
          let more = adds_by P t table m (is_without p.fits p.shape p.charges.flags.items q) q in
          let sum : cycles_limit ≤ cost.0 + more = large_is (cost.0 + more) (subst (λ (n : ℕ). cycles_limit ≤ n) cost.2 large) in
          let own = small (At q) cost.0 cost.1 in
          let x = target (is_without p.fits p.shape p.charges.flags.items q) q (omega arith) in
          let w = call_on_walk laws.invokes laws.headers laws.lies P m h.graph h.is_live (nest_of p.shape) nest_in p.bounds.items fees_in q reached (target_calls P m q x.0 x.1) in
          record { node = At q; reached = reached; large = large; walk = w.0; bounded = w.1; has = w.2 }
      by (RaiseAt q) reached large =
          let cost = h.costs.each (RaiseAt q) reached in
          let sum : cycles_limit ≤ cost.0 + 0 = large_is (cost.0 + 0) (subst (λ (n : ℕ). cycles_limit ≤ n) cost.2 large) in
          let own = small (RaiseAt q) cost.0 cost.1 in
          absurd (omega arith)
