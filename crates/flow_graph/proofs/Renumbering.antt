-- The reached nodes of a graph with new numbers.
use Rattle.std.proofs.Common.{◌≡◌, ℕ, ◌+◌, ◌<◌, Bool, true, false, List, [], ◌∷◌, ◌++◌, length, get_or, filter, All, Contains, refl, sym, ap, ap₂, ◌∙◌, subst, inl, inr, arith}
use Rattle.std.specs.Prelude.{◌↔◌}
use Rattle.std.proofs.lemmas.Bool.{cases_lt, both_ways}
use Rattle.std.proofs.lemmas.List.{get_or_append_left, get_or_push, length_push, get_or_past}
use Rattle.std.proofs.lemmas.List.Elements.{All-contains, Contains-get_or}
use Rattle.lists.specs.Members.{map_contains}
use Rattle.loop_nest.specs.Digraph.{Digraph, IsDigraph, Edge}
use Rattle.loop_nest.specs.Walks.{Walk, IsReachable}
use Rattle.loop_nest.specs.Walks.Walk.{stay, along}
use Rattle.loop_nest.proofs.Elements.{from_map, filter_contains, from_filter}
use Rattle.method_flow.specs.Compact.{IsCompact}
use Rattle.flow_graph.specs.Numbering.{AreNumbered, edges_from, renumbered_edges, renumbered_nodes}
use Rattle.flow_graph.specs.Reach as reach
use Rattle.flow_graph.specs.Reach.{Reaches, AreReached, AreWithin, flag_at}
use Rattle.flow_graph.specs.Reach.Reaches.{entry}

-- ---- one node more

pub numbered_none : (flags : List Bool) → AreNumbered flags 0 [] []
numbered_none flags = record {
  long = refl;
  few = omega arith;
  flagged = λ u lt. absurd (omega arith);
  within = λ u lt. absurd (omega arith);
  number = λ u lt. absurd (omega arith);
  below = λ x lt at. absurd (omega arith);
  node = λ x lt at. absurd (omega arith);
  rising = λ u v lt less. absurd (omega arith);
}

module _ (flags : List Bool) (x : ℕ) (nodes numbers : List ℕ) (h : AreNumbered flags x nodes numbers) where
  abbrev numbers' : List ℕ
  numbers' = numbers ++ length nodes ∷ []

  old_number : (y : ℕ) → y < x → get_or numbers' y 0 ≡ get_or numbers y 0
  old_number y lt = let long = h.long in get_or_append_left numbers (length nodes ∷ []) 0 y (omega arith)

  new_number : get_or numbers' x 0 ≡ length nodes
  new_number = let long = h.long in get_or_push numbers (length nodes) 0 x (omega arith)

  longer : length numbers' ≡ x + 1
  longer = let long = h.long in let size = length_push numbers (length nodes) in omega arith

  -- an earlier node, or this one
  earlier : (y : ℕ) → y < x + 1 → flag_at flags x ≡ false → flag_at flags y ≡ true → y < x
  earlier y lt off on =
      elim (cases_lt y x) [
        | inl less ↦ less
        | inr ge ↦ let same : x ≡ y = omega arith in absurd (both_ways (flag_at flags x) off (ap (λ (z : ℕ). flag_at flags z) same ∙ on))
      ]

  pub numbered_skips : flag_at flags x ≡ false → AreNumbered flags (x + 1) nodes numbers'
  numbered_skips off =
      let few = h.few in
      record {
        long = longer;
        few = omega arith;
        flagged = h.flagged;
        within = λ u lt. let w = h.within u lt in omega arith;
        number = λ u lt. old_number (get_or nodes u 0) (h.within u lt) ∙ h.number u lt;
        below = λ y lt on. let less = earlier y lt off on in let b = h.below y less on in let e = old_number y less in omega arith;
        node = λ y lt on. let less = earlier y lt off on in ap (λ (k : ℕ). get_or nodes k 0) (old_number y less) ∙ h.node y less on;
        rising = h.rising;
      }

  abbrev nodes' : List ℕ
  nodes' = nodes ++ x ∷ []

  old_node : (u : ℕ) → u < length nodes → get_or nodes' u 0 ≡ get_or nodes u 0
  old_node u lt = get_or_append_left nodes (x ∷ []) 0 u lt

  new_node : (u : ℕ) → u ≡ length nodes → get_or nodes' u 0 ≡ x
  new_node u e = get_or_push nodes x 0 u (sym e)

  pub numbered_takes : flag_at flags x ≡ true → AreNumbered flags (x + 1) nodes' numbers'
  numbered_takes on =
      let few = h.few in
      let size = length_push nodes x in
      record {
        long = longer;
        few = omega arith;
        flagged = λ u lt.
            elim (cases_lt u (length nodes)) [
              | inl less ↦ ap (λ (z : ℕ). flag_at flags z) (old_node u less) ∙ h.flagged u less
              | inr ge ↦ ap (λ (z : ℕ). flag_at flags z) (new_node u (omega arith)) ∙ on
            ];
        within = λ u lt.
            elim (cases_lt u (length nodes)) [
              | inl less ↦ let w = h.within u less in let e = old_node u less in omega arith
              | inr ge ↦ let e = new_node u (omega arith) in omega arith
            ];
        number = λ u lt.
            elim (cases_lt u (length nodes)) [
              | inl less ↦ ap (λ (z : ℕ). get_or numbers' z 0) (old_node u less) ∙ old_number (get_or nodes u 0) (h.within u less) ∙ h.number u less
              | inr ge ↦ let e : length nodes ≡ u = omega arith in ap (λ (z : ℕ). get_or numbers' z 0) (new_node u (omega arith)) ∙ new_number ∙ e
            ];
        below = λ y lt flag.
            elim (cases_lt y x) [
              | inl less ↦ let b = h.below y less flag in let e = old_number y less in omega arith
              | inr ge ↦ let same : y ≡ x = omega arith in let e = ap (λ (z : ℕ). get_or numbers' z 0) same in let f = new_number in omega arith
            ];
        node = λ y lt flag.
            elim (cases_lt y x) [
              | inl less ↦ ap (λ (k : ℕ). get_or nodes' k 0) (old_number y less) ∙ old_node (get_or numbers y 0) (h.below y less flag) ∙ h.node y less flag
              | inr ge ↦
                  let same : y ≡ x = omega arith in
                  let e : get_or numbers' y 0 ≡ length nodes = ap (λ (z : ℕ). get_or numbers' z 0) same ∙ new_number in
                  new_node (get_or numbers' y 0) e ∙ sym same
            ];
        rising = λ u v lt less.
            elim (cases_lt v (length nodes)) [
              | inl low ↦ let r = h.rising u v low less in let a = old_node u (omega arith) in let b = old_node v low in omega arith
              | inr ge ↦
                  let inside : u < length nodes = omega arith in
                  let w = h.within u inside in
                  let a = old_node u inside in
                  let b = new_node v (omega arith) in
                  omega arith
            ];
      }

-- ---- walks

walk_more : {g : Digraph} {u v w : ℕ} {ns : List ℕ} → Walk g u v ns → Edge g v w → Walk g u w (ns ++ w ∷ [])
walk_more stay e = along e stay
walk_more (along f t) e = along f (walk_more t e)

walk_reaches : {g : Digraph} {u v : ℕ} {ns : List ℕ} → Walk g u v ns → Reaches g.edges u → Reaches g.edges v
walk_reaches stay r = r
walk_reaches (along e t) r = walk_reaches t (reach.Reaches.along r e)

pub reachable_is_reached : (g : Digraph) (x : ℕ) → IsReachable g x → Reaches g.edges x
reachable_is_reached g x w = walk_reaches w.1 entry

-- ---- the graph by the new numbers

module _ (g : Digraph) (flags : List Bool) (nodes numbers : List ℕ) (r : AreReached g.edges g.nodes flags) (h : AreNumbered flags g.nodes nodes numbers) (some : 0 < g.nodes) where
  abbrev node : ℕ → ℕ
  node u = get_or nodes u 0

  abbrev number : ℕ → ℕ
  number x = get_or numbers x 0

  flag_of : {x : ℕ} → Reaches g.edges x → flag_at flags x ≡ true
  flag_of {x} t = (r.each x).1 t

  inside : {x : ℕ} → Reaches g.edges x → x < g.nodes
  inside {x} t =
      elim (cases_lt x g.nodes) [
        | inl below ↦ below
        | inr past ↦ let long = r.long in absurd (both_ways (flag_at flags x) (get_or_past flags x false (omega arith)) (flag_of t))
      ]

  reaches_of : (u : ℕ) → u < length nodes → Reaches g.edges (node u)
  reaches_of u lt = (r.each (node u)).0 (h.flagged u lt)

  number_below : {x : ℕ} → Reaches g.edges x → number x < length nodes
  number_below {x} t = h.below x (inside t) (flag_of t)

  node_number : {x : ℕ} → Reaches g.edges x → node (number x) ≡ x
  node_number {x} t = h.node x (inside t) (flag_of t)

  -- node 0 is the first
  first_node : node 0 ≡ 0
  first_node =
      let below = number_below {x = 0} entry in
      let is = node_number {x = 0} entry in
      elim (cases_lt 0 (number 0)) [
        | inl more ↦ let up = h.rising 0 (number 0) below more in absurd (omega arith)
        | inr none ↦ let same : 0 ≡ number 0 = omega arith in ap node same ∙ is
      ]

  first_number : number 0 ≡ 0
  first_number =
      let below = number_below {x = 0} entry in
      ap number (sym first_node) ∙ h.number 0 (omega arith)

  pub some_nodes : 0 < length nodes
  some_nodes = let b = number_below {x = 0} entry in omega arith

  new_edge_within : (e : ℕ × ℕ) → Contains (renumbered_edges flags numbers g.edges) e → (e.0 < length nodes) × (e.1 < length nodes)
  new_edge_within e has =
      let m = from_map (λ (x : ℕ × ℕ). (number x.0, number x.1)) (edges_from flags g.edges) e has in
      let k = from_filter (λ (x : ℕ × ℕ). flag_at flags x.0) g.edges m.0 m.1 in
      let a : Reaches g.edges m.0.0 = (r.each m.0.0).0 k.1 in
      let ul = number_below a in
      let vl = number_below (reach.Reaches.along a k.0) in
      let P : ℕ × ℕ → Type 0 = λ x. (x.0 < length nodes) × (x.1 < length nodes) in
      subst P m.2 (ul, vl)

  pub new_edges_within : AreWithin (length nodes) (renumbered_edges flags numbers g.edges)
  new_edges_within = λ k e lt. new_edge_within (get_or (renumbered_edges flags numbers g.edges) k e) (Contains-get_or (renumbered_edges flags numbers g.edges) k e lt)

  new_exit_within : IsDigraph g → (u : ℕ) → Contains (renumbered_nodes flags numbers g.exits) u → u < length nodes
  new_exit_within wg u has =
      let m = from_map number (filter (λ x. flag_at flags x) g.exits) u has in
      let k = from_filter (λ (x : ℕ). flag_at flags x) g.exits m.0 m.1 in
      let below = h.below m.0 (All-contains (λ (y : ℕ). y < g.nodes) g.exits m.0 wg.exits.within k.0) k.1 in
      let is = m.2 in
      omega arith

  pub new_exits_within : IsDigraph g → All (λ u. u < length nodes) (renumbered_nodes flags numbers g.exits)
  new_exits_within wg = λ k e lt. new_exit_within wg (get_or (renumbered_nodes flags numbers g.exits) k e) (Contains-get_or (renumbered_nodes flags numbers g.exits) k e lt)

  module _ (d : Digraph) (size : d.nodes ≡ length nodes) (edges : (e : ℕ × ℕ) → Contains d.edges e ↔ Contains (renumbered_edges flags numbers g.edges) e) (exits : (u : ℕ) → Contains d.exits u ↔ Contains (renumbered_nodes flags numbers g.exits) u) where
    edge_to : (u v : ℕ) → Edge d u v → (u < d.nodes) × (v < d.nodes) × Edge g (node u) (node v)
    edge_to u v has =
        let m = from_map (λ (e : ℕ × ℕ). (number e.0, number e.1)) (edges_from flags g.edges) (u, v) ((edges (u, v)).0 has) in
        let k = from_filter (λ (e : ℕ × ℕ). flag_at flags e.0) g.edges m.0 m.1 in
        let a : Reaches g.edges m.0.0 = (r.each m.0.0).0 k.1 in
        let b : Reaches g.edges m.0.1 = reach.Reaches.along a k.0 in
        let us : number m.0.0 ≡ u = ap (λ (e : ℕ × ℕ). e.0) m.2 in
        let vs : number m.0.1 ≡ v = ap (λ (e : ℕ × ℕ). e.1) m.2 in
        let ul = number_below a in
        let vl = number_below b in
        let ue : m.0.0 ≡ node u = sym (node_number a) ∙ ap node us in
        let ve : m.0.1 ≡ node v = sym (node_number b) ∙ ap node vs in
        let P : ℕ → Type 0 = λ x. Edge g x (node v) in
        let Q : ℕ → Type 0 = λ y. Edge g m.0.0 y in
        (omega arith, omega arith, subst P ue (subst Q ve k.0))

    edge_back : (u v : ℕ) → u < length nodes → v < length nodes → Edge g (node u) (node v) → Edge d u v
    edge_back u v ul vl has =
        let f : ℕ × ℕ → ℕ × ℕ = λ e. (number e.0, number e.1) in
        let there : Contains (renumbered_edges flags numbers g.edges) (f (node u, node v)) = map_contains f (edges_from flags g.edges) (node u, node v) (filter_contains (λ (e : ℕ × ℕ). flag_at flags e.0) g.edges (node u, node v) (h.flagged u ul) has) in
        let is : f (node u, node v) ≡ (u, v) = ap₂ (λ (a b : ℕ). (a, b)) (h.number u ul) (h.number v vl) in
        let P : ℕ × ℕ → Type 0 = λ e. Contains (renumbered_edges flags numbers g.edges) e in
        (edges (u, v)).1 (subst P is there)

    exit_to : (within : (x : ℕ) → Contains g.exits x → x < g.nodes) (u : ℕ) → Contains d.exits u → (u < d.nodes) × Contains g.exits (node u)
    exit_to within u has =
        let m = from_map number (filter (λ x. flag_at flags x) g.exits) u ((exits u).0 has) in
        let k = from_filter (λ (x : ℕ). flag_at flags x) g.exits m.0 m.1 in
        let us = m.2 in
        let below = h.below m.0 (within m.0 k.0) k.1 in
        let e : m.0 ≡ node u = sym (h.node m.0 (within m.0 k.0) k.1) ∙ ap node us in
        let P : ℕ → Type 0 = λ x. Contains g.exits x in
        (omega arith, subst P e k.0)

    exit_back : (u : ℕ) → u < length nodes → Contains g.exits (node u) → Contains d.exits u
    exit_back u lt has =
        let there = map_contains number (filter (λ x. flag_at flags x) g.exits) (node u) (filter_contains (λ (x : ℕ). flag_at flags x) g.exits (node u) (h.flagged u lt) has) in
        let P : ℕ → Type 0 = λ z. Contains (renumbered_nodes flags numbers g.exits) z in
        (exits u).1 (subst P (h.number u lt) there)

    reached_again : {x : ℕ} → Reaches g.edges x → IsReachable d (number x)
    reached_again entry = let P : ℕ → Type 0 = λ z. IsReachable d z in subst P (sym first_number) (0 ∷ [], stay)
    reached_again (reach.Reaches.along {u} {v} t e) =
        let w = reached_again t in
        let b : Reaches g.edges v = reach.Reaches.along t e in
        let P : ℕ → Type 0 = λ x. Edge g x (node (number v)) in
        let Q : ℕ → Type 0 = λ y. Edge g u y in
        let e' : Edge d (number u) (number v) = edge_back (number u) (number v) (number_below t) (number_below b) (subst P (sym (node_number t)) (subst Q (sym (node_number b)) e)) in
        (w.0 ++ number v ∷ [], walk_more w.1 e')

    pub is_compact : IsDigraph g → IsDigraph d → IsCompact g d node
    is_compact wg wd =
        let within : (x : ℕ) → Contains g.exits x → x < g.nodes = λ x has. All-contains (λ (y : ℕ). y < g.nodes) g.exits x wg.exits.within has in
        record {
          digraph = wd;
          entry = first_node;
          rising = λ u v lt less. h.rising u v (omega arith) less;
          edges = λ u v. (edge_to u v, λ t. let ul = t.0 in let vl = t.1 in edge_back u v (omega arith) (omega arith) t.2);
          exits = λ u. (exit_to within u, λ t. let ul = t.0 in exit_back u (omega arith) t.1);
          all = λ x w. let t = reachable_is_reached g x w in let b = number_below t in (number x, omega arith, node_number t);
          reached = λ u lt.
              let below : u < length nodes = omega arith in
              let P : ℕ → Type 0 = λ z. IsReachable d z in
              subst P (h.number u below) (reached_again (reaches_of u below));
        }
