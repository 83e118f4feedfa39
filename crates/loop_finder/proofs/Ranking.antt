-- A method's graph whose edges lead to greater numbers alone has a compact graph, whose reduction leaves node 0 alone and which has no loops.
use Rattle.std.proofs.Common.{◌≡◌, ◌↔◌, ℕ, zero, suc, ◌+◌, ◌<◌, Bool, true, false, List, [], ◌∷◌, ◌++◌, length, map, get_or, filter, Contains, refl, sym, ap, ◌∙◌, subst, inl, inr, arith}
use Rattle.std.specs.Prelude.{slice_index}
use Rattle.std.specs.List.{AllAdjacentBelow, range_with_len}
use Rattle.std.specs.List.Sorted.{IsStrictlyIncreasing}
use Rattle.std.proofs.lemmas.Bool.{cases_Bool, cases_lt, cases_order, both_ways}
use Rattle.std.proofs.lemmas.List.{get_or_default, get_or_past}
use Rattle.std.proofs.lemmas.List.FromFn.{get_or-map-range_with_len, length-map-range_with_len}
use Rattle.std.proofs.lemmas.List.Elements.{All-contains}
use Rattle.lists.specs.Members.{at_head, in_tail, cons_cases, nil_contains, has_or_not, map_contains}
use Rattle.bytecode_model.specs.Program.{Program}
use Rattle.loop_nest.specs.Digraph.{Digraph, Edge, IsBefore, IsDigraph}
use Rattle.loop_nest.specs.Walks.{IsReachable}
use Rattle.loop_nest.specs.Walks.Walk.{stay}
use Rattle.loop_nest.specs.Nest.{IsNest}
use Rattle.loop_nest.specs.Reduction.{Leaves}
use Rattle.loop_nest.proofs.Elements.{dropped_at, from_filter, from_map, kept_at}
use Rattle.loop_nest.proofs.Ends.{ends_within}
use Rattle.method_flow.specs.Graphs.{IsGraphOf}
use Rattle.method_flow.specs.Nodes.{Node, IsReached, IsEdge, number_of}
use Rattle.method_flow.specs.Nodes.IsReached.{first, later}
use Rattle.flow_graph.specs.Numbering.{AreNumbered, IsCompactOf, renumbered_edges, renumbered_nodes}
use Rattle.flow_graph.specs.declared.numbering.Compact.{Compact}
use Rattle.flow_graph.specs.Reach as reach
use Rattle.flow_graph.specs.Reach.{AreReached, Reaches, flag_at}
use Rattle.flow_graph.specs.Reach.Reaches.{entry}
use Rattle.flow_graph.proofs.Renumbering.{is_compact, new_edges_within, new_exits_within, numbered_none, numbered_skips, numbered_takes, reachable_is_reached, some_nodes}
use Rattle.compact_walks.proofs.Walks.{step_on}
use Rattle.loop_finder.specs.Headers.{LeadsUp}
use Rattle.loop_finder.proofs.Acyclic.{LeadUp, leaves_none, nests_none}

-- ---- lists whose items each stand before all later ones

abbrev Rises : {X : Type 0} → (X → X → Type 0) → List X → Type 0
Rises R [] = Unit {0}
Rises {X} R (x ∷ xs) = ((y : X) → Contains xs y → R x y) × Rises R xs

module _ {X : Type 0} (R : X → X → Type 0) where
  adjacent_tail : (x : X) (xs : List X) → AllAdjacentBelow R (x ∷ xs) (length (x ∷ xs)) → AllAdjacentBelow R xs (length xs)
  adjacent_tail x xs h k d below =
      let e : suc k + 1 ≡ suc (k + 1) = omega arith in
      subst (λ (n : ℕ). R (get_or xs k d) (get_or (x ∷ xs) n d)) e (h (suc k) d (omega arith))

  to_adjacent : (xs : List X) → Rises R xs → AllAdjacentBelow R xs (length xs)
  to_adjacent [] h k d below = absurd (let bad : ⊥ = omega arith in bad)
  to_adjacent (x ∷ []) h k d below = absurd (let bad : ⊥ = omega arith in bad)
  to_adjacent (x ∷ y ∷ zs) h zero d below = h.0 y (at_head y zs)
  to_adjacent (x ∷ y ∷ zs) h (suc k) d below =
      let e : suc (k + 1) ≡ suc k + 1 = omega arith in
      subst (λ (n : ℕ). R (get_or (y ∷ zs) k d) (get_or (x ∷ y ∷ zs) n d)) e (to_adjacent (y ∷ zs) h.1 k d (omega arith))

  module _ (through : (x y z : X) → R x y → R y z → R x z) where
    head_before : (x : X) (xs : List X) → AllAdjacentBelow R (x ∷ xs) (length (x ∷ xs)) → (y : X) → Contains xs y → R x y
    head_before x [] h y has = absurd (nil_contains y has)
    head_before x (z ∷ zs) h y has =
        let next : R x z = h 0 x (omega arith) in
        elim (cons_cases z y zs has) [
          | inl here ↦ subst (λ (w : X). R x w) here next
          | inr there ↦ through x z y next (head_before z zs (adjacent_tail x (z ∷ zs) h) y there)
        ]

    from_adjacent : (xs : List X) → AllAdjacentBelow R xs (length xs) → Rises R xs
    from_adjacent [] h = tt
    from_adjacent (x ∷ xs) h = (head_before x xs h, from_adjacent xs (adjacent_tail x xs h))

-- what passes a test, in another form, rises where the form keeps the order
module _ {X Y : Type 0} (R : X → X → Type 0) (S : Y → Y → Type 0) (p : X → Bool) (f : X → Y) where
  from_kept : (xs : List X) (y : Y) → Contains (map f (filter p xs)) y → (x : X) × Contains xs x × (p x ≡ true) × (f x ≡ y)
  from_kept xs y has =
      let m = from_map f (filter p xs) y has in
      let k = from_filter p xs m.0 m.1 in
      (m.0, k.0, k.1, m.2)

  kept_rises : (xs : List X) → Rises R xs → ((x y : X) → Contains xs x → Contains xs y → p x ≡ true → p y ≡ true → R x y → S (f x) (f y)) → Rises S (map f (filter p xs))
  kept_rises [] rises keeps = tt
  kept_rises (x ∷ xs) rises keeps =
      let rest = kept_rises xs rises.1 (λ y z here there. keeps y z (in_tail x y xs here) (in_tail x z xs there)) in
      elim (cases_Bool (p x)) [
        | inl on ↦
            subst (λ (ys : List X). Rises S (map f ys)) (sym (kept_at p x xs on))
            (λ y has. let k = from_kept xs y has in subst (λ (z : Y). S (f x) z) k.3 (keeps x k.0 (at_head x xs) (in_tail x k.0 xs k.1) on k.2 (rises.0 k.0 k.1)), rest)
        | inr off ↦ subst (λ (ys : List X). Rises S (map f ys)) (sym (dropped_at p x xs off)) rest
      ]

before_through : (a b c : ℕ × ℕ) → IsBefore a b → IsBefore b c → IsBefore a c
before_through a b c (inl x) (inl y) = inl (omega arith)
before_through a b c (inl x) (inr y) = let same = y.0 in inl (omega arith)
before_through a b c (inr x) (inl y) = let same = x.0 in inl (omega arith)
before_through a b c (inr x) (inr y) = let less = x.1 in let less' = y.1 in inr (x.0 ∙ y.0, omega arith)

adjacent_numbers : (xs : List ℕ) → IsStrictlyIncreasing xs → AllAdjacentBelow ◌<◌ xs (length xs)
adjacent_numbers xs h k d below =
    let up = h k below in
    let here = get_or_default xs k d 0 (omega arith) in
    let next = get_or_default xs (k + 1) d 0 (omega arith) in
    omega arith

-- ---- flags

abbrev is_among : List ℕ → ℕ → Bool
is_among us x = elim (has_or_not us x) [ inl has ↦ true | inr none ↦ false ]

among : (us : List ℕ) (x : ℕ) → (is_among us x ≡ true) ↔ Contains us x
among us x = elim (has_or_not us x) as (λ o. ((elim o [ inl has ↦ true | inr none ↦ false ]) ≡ true) ↔ Contains us x) [
  | inl has ↦ (λ on. has, λ there. refl)
  | inr none ↦ (λ on. absurd (both_ways false refl on), λ there. absurd (none there))
]

-- the flagged ones of the first n nodes have such numbers
record Numbers (flags : List Bool) (n : ℕ) : Type 0 where
  nodes : List ℕ
  numbers : List ℕ
  are : AreNumbered flags n nodes numbers

numbers_of : (flags : List Bool) (n : ℕ) → Numbers flags n
numbers_of flags zero = record { nodes = []; numbers = []; are = numbered_none flags }
numbers_of flags (suc n) =
    let r = numbers_of flags n in
    let e : n + 1 ≡ suc n = omega arith in
    subst (λ (k : ℕ). Numbers flags k) e
    (elim (cases_Bool (flag_at flags n)) [
      | inl on ↦ record { nodes = r.nodes ++ n ∷ []; numbers = r.numbers ++ length r.nodes ∷ []; are = numbered_takes flags n r.nodes r.numbers r.are on }
      | inr off ↦ record { nodes = r.nodes; numbers = r.numbers ++ length r.nodes ∷ []; are = numbered_skips flags n r.nodes r.numbers r.are off }
    ])

-- ---- the compact graph

module _ (g : Digraph) (wf : IsDigraph g) (from : (u v : ℕ) → Edge g u v → IsReachable g u) where
  -- node 0 and the targets of edges are reached
  abbrev reached_nodes : List ℕ
  reached_nodes = 0 ∷ map (λ e. e.1) g.edges

  abbrev flags : List Bool
  flags = map (is_among reached_nodes) (range_with_len 0 g.nodes)

  flag_is : (x : ℕ) → x < g.nodes → flag_at flags x ≡ is_among reached_nodes x
  flag_is x below = get_or-map-range_with_len (is_among reached_nodes) 0 g.nodes x x false below (omega arith)

  reaches : (x : ℕ) → Contains reached_nodes x → Reaches g.edges x
  reaches x has =
      elim (cons_cases 0 x (map (λ e. e.1) g.edges) has) [
        | inl same ↦ subst (λ (z : ℕ). Reaches g.edges z) same entry
        | inr there ↦
            let m = from_map (λ (e : ℕ × ℕ). e.1) g.edges x there in
            subst (λ (z : ℕ). Reaches g.edges z) m.2 (reach.Reaches.along (reachable_is_reached g m.0.0 (from m.0.0 m.0.1 m.1)) m.1)
      ]

  listed : (x : ℕ) → Reaches g.edges x → Contains reached_nodes x × (x < g.nodes)
  listed x entry = (at_head 0 (map (λ e. e.1) g.edges), wf.entry)
  listed x (reach.Reaches.along {u} {v} t has) =
      (in_tail 0 v (map (λ e. e.1) g.edges) (map_contains (λ (e : ℕ × ℕ). e.1) g.edges (u, v) has), (ends_within wf u v has).1)

  long_flags : length flags ≡ g.nodes
  long_flags = length-map-range_with_len (is_among reached_nodes) 0 g.nodes

  are_reached : AreReached g.edges g.nodes flags
  are_reached = record {
    long = long_flags;
    each = λ x. (
      λ on.
          elim (cases_lt x g.nodes) [
            | inl below ↦ reaches x ((among reached_nodes x).0 (sym (flag_is x below) ∙ on))
            | inr past ↦ let long = long_flags in absurd (both_ways (flag_at flags x) (get_or_past flags x false (omega arith)) on)
          ],
      λ t. let l = listed x t in flag_is x l.1 ∙ (among reached_nodes x).1 l.0,
    );
  }

  numbering : Numbers flags g.nodes
  numbering = numbers_of flags g.nodes

  module _ (nodes numbers : List ℕ) (are : AreNumbered flags g.nodes nodes numbers) where
    abbrev number : ℕ → ℕ
    number x = get_or numbers x 0

    -- the new numbers keep the order
    keeps_order : (x y : ℕ) → x < g.nodes → y < g.nodes → flag_at flags x ≡ true → flag_at flags y ≡ true → x < y → number x < number y
    keeps_order x y lx ly on on' less =
        let at_x = are.node x lx on in
        let at_y = are.node y ly on' in
        elim (cases_order (number x) (number y)) [
          | inl same ↦ let e = ap (λ (k : ℕ). get_or nodes k 0) same in absurd (let bad : ⊥ = omega arith in bad)
          | inr apart ↦
              elim apart [
                | inl up ↦ up
                | inr down ↦ let r = are.rising (number y) (number x) (are.below x lx on) down in absurd (let bad : ⊥ = omega arith in bad)
              ]
        ]

    edge_flags : (e : ℕ × ℕ) → Contains g.edges e → (flag_at flags e.0 ≡ true) × (flag_at flags e.1 ≡ true)
    edge_flags e has =
        let source = reachable_is_reached g e.0 (from e.0 e.1 has) in
        ((are_reached.each e.0).1 source, (are_reached.each e.1).1 (reach.Reaches.along source has))

    keeps_edges : (a b : ℕ × ℕ) → Contains g.edges a → Contains g.edges b → IsBefore a b → IsBefore (number a.0, number a.1) (number b.0, number b.1)
    keeps_edges a b here there before =
        let at_a = ends_within wf a.0 a.1 here in
        let at_b = ends_within wf b.0 b.1 there in
        let on_a = edge_flags a here in
        let on_b = edge_flags b there in
        elim before [
          | inl less ↦ inl (keeps_order a.0 b.0 at_a.0 at_b.0 on_a.0 on_b.0 less)
          | inr same ↦ inr (ap number same.0, keeps_order a.1 b.1 at_a.1 at_b.1 on_a.1 on_b.1 same.1)
        ]

    edges_rise : AllAdjacentBelow IsBefore (renumbered_edges flags numbers g.edges) (length (renumbered_edges flags numbers g.edges))
    edges_rise =
        to_adjacent IsBefore (renumbered_edges flags numbers g.edges)
        (kept_rises IsBefore IsBefore (λ (e : ℕ × ℕ). flag_at flags e.0) (λ (e : ℕ × ℕ). (number e.0, number e.1)) g.edges
        (from_adjacent IsBefore before_through g.edges wf.edges.rising) (λ a b here there on on' before. keeps_edges a b here there before))

    exits_rise : IsStrictlyIncreasing (renumbered_nodes flags numbers g.exits)
    exits_rise k lt =
        let within : (x : ℕ) → Contains g.exits x → x < g.nodes = λ x has. All-contains (λ (y : ℕ). y < g.nodes) g.exits x wf.exits.within has in
        to_adjacent ◌<◌ (renumbered_nodes flags numbers g.exits)
        (kept_rises ◌<◌ ◌<◌ (λ (u : ℕ). flag_at flags u) number g.exits
        (from_adjacent ◌<◌ (λ x y z lt lt'. omega arith) g.exits (adjacent_numbers g.exits wf.exits.rising))
        (λ x y here there on on' less. keeps_order x y (within x here) (within y there) on on' less)) k 0 lt

    abbrev graph : Digraph
    graph = record { nodes = length nodes; edges = renumbered_edges flags numbers g.edges; exits = renumbered_nodes flags numbers g.exits }

    digraph : IsDigraph graph
    digraph = record {
      entry = some_nodes g flags nodes numbers are_reached are wf.entry;
      edges = record { ends = new_edges_within g flags nodes numbers are_reached are wf.entry; rising = edges_rise };
      exits = record { within = new_exits_within g flags nodes numbers are_reached are wf.entry wf; rising = exits_rise };
    }

    compact_graph : Compact
    compact_graph = record { graph = graph; nodes = nodes }

    compact_is : IsCompactOf g compact_graph
    unfolding compact_graph
    compact_is = record {
      compact = is_compact g flags nodes numbers are_reached are wf.entry graph refl (λ e. (λ has. has, λ has. has)) (λ u. (λ has. has, λ has. has)) wf digraph;
      long = refl;
    }

-- ---- methods

-- the graph has a compact graph, which is reducible and has no loops
pub record HasNoLoops (g : Digraph) : Type 0 where
  pub compact : Compact
  pub is : IsCompactOf g compact
  pub leaves : Leaves compact.graph []
  pub nest : IsNest compact.graph []

module _ (P : Program) (m : ℕ) (g : Digraph) (is : IsGraphOf P m g) where
  reachable : {u : Node} → IsReached (IsEdge P m) u → IsReachable g (number_of u)
  reachable first = (0 ∷ [], stay)
  reachable (later {u} {v} r e) =
      let to_u = reachable r in
      step_on to_u.1 ((is.edges (number_of u) (number_of v)).1 (record { source = u; target = v; reached = r; edge = e; numbered = (refl, refl) }))

  pub from_reached : (u v : ℕ) → Edge g u v → IsReachable g u
  from_reached u v e = let r = (is.edges u v).0 e in subst (λ (z : ℕ). IsReachable g z) (sym r.numbered.0) (reachable r.reached)

  no_loops_by : LeadsUp g → (c : Compact) → IsCompactOf g c → HasNoLoops g
  no_loops_by up c compact = record {
    compact = c;
    is = compact;
    leaves = leaves_none c.graph compact.compact.digraph compact.compact.reached low;
    nest = nests_none c.graph compact.compact.digraph compact.compact.reached low;
  }
    where
      low : LeadUp c.graph
      low u v has =
          let e = (compact.compact.edges u v).0 has in
          let rise : slice_index c.nodes u < slice_index c.nodes v = All-contains (λ (x : ℕ × ℕ). x.0 < x.1) g.edges (slice_index c.nodes u, slice_index c.nodes v) up e.2 in
          elim (cases_order u v) [
            | inl same ↦ let k = ap (λ (x : ℕ). slice_index c.nodes x) same in absurd (let bad : ⊥ = omega arith in bad)
            | inr apart ↦
                elim apart [
                  | inl less ↦ less
                  | inr more ↦ let r = compact.compact.rising v u e.0 more in absurd (let bad : ⊥ = omega arith in bad)
                ]
          ]

  pub no_loops : LeadsUp g → HasNoLoops g
  no_loops up =
      let ns = numbering g is.digraph from_reached in
      no_loops_by up (compact_graph g is.digraph from_reached ns.nodes ns.numbers ns.are) (compact_is g is.digraph from_reached ns.nodes ns.numbers ns.are)
