-- The graph of what the edges of a method's code reach, by number.
use Rattle.std.proofs.Common.{◌≡◌, ℕ, ◌+◌, ◌*◌, ◌<◌, ◌/◌, ◌%◌, Bool, true, false, ◌&&◌, ◌||◌, List, length, get_or, All, Contains, refl, sym, ap, ap₂, ◌∙◌, subst, inl, inr, arith, eqb}
use Rattle.std.specs.Prelude.{◌↔◌}
use Rattle.std.proofs.lemmas.Bool.{cases_lt, both_ways, eq-eqb}
use Rattle.std.proofs.lemmas.List.{get_or_past}
use Rattle.std.proofs.lemmas.List.Elements.{Contains-get_or}
use Rattle.opcodes.specs.Start.{AreStarts}
use Rattle.opcodes.specs.Instruction.{decoded}
use Rattle.lists.specs.Tests.{and_left, and_right}
use Rattle.loop_nest.specs.Digraph.{Digraph, IsDigraph}
use Rattle.loop_nest.proofs.Elements.{filter_contains, from_filter}
use Rattle.method_flow.specs.Flow.{Coded, IsCoded}
use Rattle.method_flow.specs.Graphs.{IsReachedEdge}
use Rattle.method_flow.specs.Nodes.{Node, At, RaiseAt, number_of, IsReached}
use Rattle.method_flow.specs.Nodes.IsReached.{first, later}
use Rattle.flow_graph.specs.Edges.{AreCodeEdges, CodeEdge, CodeExit, IsCodeGraph, IsReachedCodeExit, exits_at, leaves_at, returns_in}
use Rattle.flow_graph.specs.Numbering.{edges_from}
use Rattle.flow_graph.specs.Reach.{Reaches, AreReached, AreWithin, flag_at}
use Rattle.flow_graph.specs.Reach.Reaches.{entry, along}
use Rattle.flow_graph.proofs.Joining.{IsPlaced, source_placed, target_placed}

-- ---- numbers of nodes

pub same_node : (s t : Node) → number_of s ≡ number_of t → s ≡ t
same_node (At p) (At q) e = ap At (omega arith)
same_node (At p) (RaiseAt q) e = absurd (omega arith)
same_node (RaiseAt p) (At q) e = absurd (omega arith)
same_node (RaiseAt p) (RaiseAt q) e = ap RaiseAt (omega arith)

even_half : (p : ℕ) → 2 * p / 2 ≡ p
even_half p = omega arith

even_rest : (p : ℕ) → 2 * p % 2 ≡ 0
even_rest p = omega arith

odd_rest : (p : ℕ) → (2 * p + 1) % 2 ≡ 1
odd_rest p = omega arith

or_false : (a b : Bool) → a ≡ false → (a || b) ≡ b
or_false true b h = absurd (cc)
or_false false b h = refl

or_true : (a b : Bool) → a ≡ true → (a || b) ≡ true
or_true true b h = refl
or_true false b h = absurd (cc)

never_one : eqb 0 1 ≡ false
never_one = refl

-- the test of a node's number is the question of the node
leaves_to : (code : List ℕ) (s : Node) → leaves_at code (number_of s) ≡ true → CodeExit code s
leaves_to code (At p) h =
    let e : eqb (2 * p % 2) 1 ≡ false = ap (λ (r : ℕ). eqb r 1) (even_rest p) ∙ never_one in
    ap (λ (q : ℕ). returns_in (decoded code q)) (sym (even_half p)) ∙ sym (or_false (eqb (2 * p % 2) 1) (returns_in (decoded code (2 * p / 2))) e) ∙ h
leaves_to code (RaiseAt p) h = tt

leaves_back : (code : List ℕ) (s : Node) → CodeExit code s → leaves_at code (number_of s) ≡ true
leaves_back code (At p) h =
    let e : eqb (2 * p % 2) 1 ≡ false = ap (λ (r : ℕ). eqb r 1) (even_rest p) ∙ never_one in
    or_false (eqb (2 * p % 2) 1) (returns_in (decoded code (2 * p / 2))) e ∙ ap (λ (q : ℕ). returns_in (decoded code q)) (even_half p) ∙ h
leaves_back code (RaiseAt p) h =
    or_true (eqb ((2 * p + 1) % 2) 1) (returns_in (decoded code ((2 * p + 1) / 2))) (eq-eqb ((2 * p + 1) % 2) 1 (odd_rest p))

and_both : (a b : Bool) → a ≡ true → b ≡ true → (a && b) ≡ true
and_both true b h k = k
and_both false b h k = absurd (cc)

-- ---- what is reached

module _ (starts : (code : List ℕ) → AreStarts code) (k : Coded) (goes : List Bool) (c : IsCoded k) (es : List (ℕ × ℕ)) (are : AreCodeEdges k goes es) where
  abbrev C : Node → Node → Type 0
  C = CodeEdge k goes

  placed_within : (s : Node) → IsPlaced k s → number_of s < 2 * length k.code
  placed_within (At p) h = let lt = (starts k.code).within_code p h in omega arith
  placed_within (RaiseAt p) h = let lt = (starts k.code).within_code p h.start in omega arith

  edge_within : (e : ℕ × ℕ) → Contains es e → (e.0 < 2 * length k.code) × (e.1 < 2 * length k.code)
  edge_within e has =
      let n = (are e).0 has in
      let W : ℕ × ℕ → Type 0 = λ x. (x.0 < 2 * length k.code) × (x.1 < 2 * length k.code) in
      let at : W (number_of n.source, number_of n.target) = (placed_within n.source (source_placed k goes n.source n.target n.edge), placed_within n.target (target_placed k goes c n.source n.target n.edge)) in
      subst W (sym n.numbered) at

  pub edges_within : AreWithin (2 * length k.code) es
  edges_within = λ i d lt. edge_within (get_or es i d) (Contains-get_or es i d lt)

  has_edge : (s t : Node) → C s t → Contains es (number_of s, number_of t)
  has_edge s t e = (are (number_of s, number_of t)).1 (record { source = s; target = t; edge = e; numbered = refl })

  reaches : {s : Node} → IsReached C s → Reaches es (number_of s)
  reaches first = entry
  reaches (later {u} {v} r e) = along (reaches r) (has_edge u v e)

  pub node_reached : {u : ℕ} → Reaches es u → (s : Node) × IsReached C s × (u ≡ number_of s)
  node_reached entry = (At 0, first, refl)
  node_reached (along {u} {v} r e) =
      let h = node_reached r in
      let n = (are (u, v)).0 e in
      let from : u ≡ number_of n.source = ap (λ (x : ℕ × ℕ). x.0) n.numbered in
      let to : v ≡ number_of n.target = ap (λ (x : ℕ × ℕ). x.1) n.numbered in
      let same : h.0 ≡ n.source = same_node h.0 n.source (sym h.2 ∙ from) in
      (n.target, later (subst (IsReached C) same h.1) n.edge, to)

  module _ (flags : List Bool) (reached : AreReached es (2 * length k.code) flags) where
    kept_edge : (u v : ℕ) → Contains (edges_from flags es) (u, v) → IsReachedEdge C u v
    kept_edge u v has =
        let f = from_filter (λ (e : ℕ × ℕ). flag_at flags e.0) es (u, v) has in
        let n = (are (u, v)).0 f.0 in
        let h = node_reached ((reached.each u).0 f.1) in
        let from : u ≡ number_of n.source = ap (λ (x : ℕ × ℕ). x.0) n.numbered in
        let to : v ≡ number_of n.target = ap (λ (x : ℕ × ℕ). x.1) n.numbered in
        let same : h.0 ≡ n.source = same_node h.0 n.source (sym h.2 ∙ from) in
        record { source = n.source; target = n.target; reached = subst (IsReached C) same h.1; edge = n.edge; numbered = (from, to) }

    keeps_edge : (u v : ℕ) → IsReachedEdge C u v → Contains (edges_from flags es) (u, v)
    keeps_edge u v x =
        let there = has_edge x.source x.target x.edge in
        let on : flag_at flags (number_of x.source) ≡ true = (reached.each (number_of x.source)).1 (reaches x.reached) in
        let kept = filter_contains (λ (e : ℕ × ℕ). flag_at flags e.0) es (number_of x.source, number_of x.target) on there in
        let P : ℕ × ℕ → Type 0 = λ e. Contains (edges_from flags es) e in
        let same : (number_of x.source, number_of x.target) ≡ (u, v) = ap₂ (λ (a b : ℕ). (a, b)) (sym x.numbered.0) (sym x.numbered.1) in
        subst P same kept

    kept_exit : (u : ℕ) → exits_at k.code flags u ≡ true → IsReachedCodeExit k goes u
    kept_exit u both =
        let on = and_left (flag_at flags u) (leaves_at k.code u) both in
        let leaves = and_right (flag_at flags u) (leaves_at k.code u) both in
        let h = node_reached ((reached.each u).0 on) in
        let L : ℕ → Type 0 = λ x. leaves_at k.code x ≡ true in
        record { node = h.0; reached = h.1; exit = leaves_to k.code h.0 (subst L h.2 leaves); numbered = h.2 }

    flagged_below : (u : ℕ) → flag_at flags u ≡ true → u < length flags
    flagged_below u on =
        elim (cases_lt u (length flags)) [
          | inl below ↦ below
          | inr past ↦ absurd (both_ways (flag_at flags u) (get_or_past flags u false past) on)
        ]

    keeps_exit : (u : ℕ) → IsReachedCodeExit k goes u → exits_at k.code flags u ≡ true
    keeps_exit u x =
        let n = number_of x.node in
        let on : flag_at flags n ≡ true = (reached.each n).1 (reaches x.reached) in
        let both = and_both (flag_at flags n) (leaves_at k.code n) on (leaves_back k.code x.node x.exit) in
        let P : ℕ → Type 0 = λ e. exits_at k.code flags e ≡ true in
        subst P (sym x.numbered) both

    pub kept_within : AreWithin (2 * length k.code) (edges_from flags es)
    kept_within = λ i d lt.
        let e = get_or (edges_from flags es) i d in
        edge_within e (from_filter (λ (x : ℕ × ℕ). flag_at flags x.0) es e (Contains-get_or (edges_from flags es) i d lt)).0

    pub exits_within : (us : List ℕ) → ((u : ℕ) → Contains us u ↔ (exits_at k.code flags u ≡ true)) → All (λ u. u < 2 * length k.code) us
    exits_within us exits = λ i d lt.
        let u = get_or us i d in
        let on = and_left (flag_at flags u) (leaves_at k.code u) ((exits u).0 (Contains-get_or us i d lt)) in
        let below = flagged_below u on in
        let long = reached.long in
        omega arith

    pub is_code_graph : (g : Digraph) (kept : List (ℕ × ℕ)) (us : List ℕ) → IsDigraph g → g.nodes ≡ 2 * length k.code → kept ≡ edges_from flags es → ((e : ℕ × ℕ) → Contains g.edges e ↔ Contains kept e) → ((u : ℕ) → Contains us u ↔ (exits_at k.code flags u ≡ true)) → ((u : ℕ) → Contains g.exits u ↔ Contains us u) → IsCodeGraph k goes g
    is_code_graph g kept us d size is edges leaves exits =
        let P : List (ℕ × ℕ) → Type 0 = λ xs. (e : ℕ × ℕ) → Contains g.edges e ↔ Contains xs e in
        let edges' = subst P is edges in
        record {
          digraph = d;
          size = size;
          edges = λ u v. (λ e. kept_edge u v ((edges' (u, v)).0 e), λ x. (edges' (u, v)).1 (keeps_edge u v x));
          exits = λ u. (λ e. kept_exit u ((leaves u).0 ((exits u).0 e)), λ x. (exits u).1 ((leaves u).1 (keeps_exit u x)));
        }
