-- A graph has one compact graph, and the reduction of a method's graph leaves the same nodes.
use Rattle.std.proofs.Common.{◌≡◌, ℕ, zero, suc, ◌<◌, ◌≤◌, List, [], ◌∷◌, map, All, Contains, refl, sym, ap, ap₂, ◌∙◌, subst, inl, inr, arith}
use Rattle.std.specs.List.{range_with_len}
use Rattle.std.proofs.lemmas.Bool.{cases_lt, cases_order}
use Rattle.std.proofs.lemmas.List.Elements.{All-contains, All-contains_itself, All-filter, All-tail, All-weaker}
use Rattle.lists.specs.Members.{at_head, in_tail}
use Rattle.loop_nest.specs.Digraph.{Digraph, IsBefore, Edge}
use Rattle.loop_nest.specs.Reduction.{Quotient, Reduces, Leaves}
use Rattle.loop_nest.specs.Reduction.Reduces.{done, drops, merges}
use Rattle.loop_nest.proofs.Elements.{from_range}
use Rattle.bytecode_model.specs.Program.{Program}
use Rattle.method_flow.specs.Compact.{IsCompact}
use Rattle.compact_walks.specs.Moving.{IsMoved}
use Rattle.compact_walks.specs.Laws.{GraphsAreMoved, EndsAreOne}
use Rattle.compact_walks.proofs.Walks.{reached_out}
use Rattle.bound_rules.specs.Bounding.{IsLeftWith}
use Rattle.bound_rules.specs.Laws.{GraphsAreOne}
use Rattle.bound_laws.proofs.Rising.{never_before, before_through, same_items, from_adjacent, same_numbers}

-- ---- nodes that are left are nodes

left_within : (n : ℕ) {s t : Quotient} → Reduces s t → All (λ (u : ℕ). u < n) s.nodes → All (λ (u : ℕ). u < n) t.nodes
left_within n done h = h
left_within n (drops {s} {t} {u} p step more) h = let Q : List ℕ → Type 0 = λ xs. All (λ (u : ℕ). u < n) xs in left_within n more (subst Q (sym step.nodes) h)
left_within n (merges {s} {t} {u} x p step more) h =
    let Q : List ℕ → Type 0 = λ xs. All (λ (u : ℕ). u < n) xs in
    left_within n more (subst Q (sym step.nodes) (All-filter _ (λ (u : ℕ). u < n) s.nodes h))

leaves_nodes : (d : Digraph) (left : List ℕ) → Leaves d left → All (λ u. u < d.nodes) left
leaves_nodes d left l =
    let Q : List ℕ → Type 0 = λ xs. All (λ (u : ℕ). u < d.nodes) xs in
    let all = All-weaker (Contains (range_with_len 0 d.nodes)) (λ (u : ℕ). u < d.nodes) (from_range d.nodes) (range_with_len 0 d.nodes) (All-contains_itself (range_with_len 0 d.nodes)) in
    All-tail (λ (u : ℕ). u < d.nodes) 0 left (subst Q l.nodes (left_within d.nodes l.steps all))

same_images : (f h : ℕ → ℕ) (xs : List ℕ) → ((x : ℕ) → Contains xs x → f x ≡ h x) → map f xs ≡ map h xs
same_images f h [] each = refl
same_images f h (x ∷ xs) each = ap₂ (λ (y : ℕ) (ys : List ℕ). y ∷ ys) (each x (at_head x xs)) (same_images f h xs (λ y c. each y (in_tail x y xs c)))

-- ---- two compact graphs of one graph

module _ (g d e : Digraph) (node other : ℕ → ℕ) (a : IsMoved g d node) (b : IsMoved g e other) where
  no_greater : (u v : ℕ) → v < d.nodes → u ≤ v → node u ≤ node v
  no_greater u v lt le =
      elim (cases_order u v) [
        | inl same ↦ (let k = ap node same in omega arith)
        | inr apart ↦ elim apart [ inl less ↦ (let up = a.compact.rising u v lt less in omega arith) | inr more ↦ absurd (omega arith) ]
      ]

  -- where all lesser nodes have the same numbers, a node has
  abbrev AreSameBelow : ℕ → Type 0
  AreSameBelow n = (u : ℕ) → u < n → u < d.nodes → (u < e.nodes) × (node u ≡ other u)

  same_at : (n : ℕ) → AreSameBelow n → n < d.nodes → (n < e.nodes) × (node n ≡ other n)
  same_at n below lt =
      let r = b.compact.all (node n) (reached_out g d node a n lt) in
      let rlt = r.1 in
      let is = r.2 in
      elim (cases_order r.0 n) [
        | inl same ↦ (omega arith, sym is ∙ ap other same)
        | inr apart ↦
            elim apart [
              | inl less ↦
                  let s = below r.0 less (omega arith) in
                  let k = s.1 in
                  let up = a.compact.rising r.0 n lt less in
                  absurd (omega arith)
              | inr more ↦
                  let up = b.compact.rising n r.0 rlt more in
                  let w = a.compact.all (other n) (reached_out g e other b n (omega arith)) in
                  let wlt = w.1 in
                  let at = w.2 in
                  elim (cases_lt w.0 n) [
                    | inl less ↦
                        let s = below w.0 less wlt in
                        let k = s.1 in
                        let lower = b.compact.rising w.0 n (omega arith) less in
                        absurd (omega arith)
                    | inr at_least ↦ (let le = no_greater n w.0 wlt at_least in absurd (omega arith))
                  ]
            ]
      ]

  same_below : (n : ℕ) → AreSameBelow n
  same_below zero u less lt = absurd (omega arith)
  same_below (suc n) u less lt =
      elim (cases_lt u n) [
        | inl below ↦ same_below n u below lt
        | inr last ↦ let same : n ≡ u = omega arith in subst (λ (x : ℕ). (x < e.nodes) × (node x ≡ other x)) same (same_at n (same_below n) (omega arith))
      ]

  pub same_node : (u : ℕ) → u < d.nodes → (u < e.nodes) × (node u ≡ other u)
  same_node u lt = same_below (suc u) u (omega arith) lt

  pub no_more_nodes : d.nodes ≤ e.nodes
  no_more_nodes = elim (cases_lt e.nodes d.nodes) [ inl less ↦ (let r = (same_node e.nodes less).0 in absurd (omega arith)) | inr at_most ↦ at_most ]

  pub edge_too : (u v : ℕ) → Edge d u v → Edge e u v
  edge_too u v edge =
      let r = (a.compact.edges u v).0 edge in
      let su = same_node u r.0 in
      let sv = same_node v r.1 in
      (b.compact.edges u v).1 (su.0, sv.0, subst (λ (x : ℕ). Edge g x (other v)) su.1 (subst (λ (y : ℕ). Edge g (node u) y) sv.1 r.2))

  pub exit_too : (u : ℕ) → Contains d.exits u → Contains e.exits u
  exit_too u has =
      let r = (a.compact.exits u).0 has in
      let su = same_node u r.0 in
      (b.compact.exits u).1 (su.0, subst (λ (x : ℕ). Contains g.exits x) su.1 r.1)

module _ (g d e : Digraph) (node other : ℕ → ℕ) (a : IsMoved g d node) (b : IsMoved g e other) where
  compact_one : d ≡ e
  compact_one =
      let up = no_more_nodes g d e node other a b in
      let down = no_more_nodes g e d other node b a in
      let nodes : d.nodes ≡ e.nodes = omega arith in
      let edges : d.edges ≡ e.edges =
      same_items IsBefore never_before before_through d.edges e.edges (from_adjacent IsBefore never_before before_through d.edges a.compact.digraph.edges.rising) (from_adjacent IsBefore never_before before_through e.edges b.compact.digraph.edges.rising)
      (λ z has. edge_too g d e node other a b z.0 z.1 has) (λ z has. edge_too g e d other node b a z.0 z.1 has)
      in
      let exits : d.exits ≡ e.exits = same_numbers d.exits e.exits a.compact.digraph.exits.rising b.compact.digraph.exits.rising (exit_too g d e node other a b) (exit_too g e d other node b a) in
      let first : d ≡ record { nodes = e.nodes; edges = d.edges; exits = d.exits } = ap (λ (n : ℕ). record { nodes = n; edges = d.edges; exits = d.exits }) nodes in
      let second : record { nodes = e.nodes; edges = d.edges; exits = d.exits } ≡ record { nodes = e.nodes; edges = e.edges; exits = d.exits } =
      ap (λ (es : List (ℕ × ℕ)). record { nodes = e.nodes; edges = es; exits = d.exits }) edges
      in
      let third : record { nodes = e.nodes; edges = e.edges; exits = d.exits } ≡ e = ap (λ (us : List ℕ). record { nodes = e.nodes; edges = e.edges; exits = us }) exits in
      first ∙ (second ∙ third)

  one_left : EndsAreOne → (left others : List ℕ) → Leaves d left → Leaves e others → map node left ≡ map other others
  one_left ends left others l k =
      let same = compact_one in
      let others_d : Leaves d others = subst (λ (x : Digraph). Leaves x others) (sym same) k in
      let one : left ≡ others = ends g d node a.compact left others l others_d in
      same_images node other left (λ x c. (same_node g d e node other a b x (All-contains (λ u. u < d.nodes) left x (leaves_nodes d left l) c)).1) ∙ ap (map other) one

-- the reduction of a method's graph leaves the same nodes
pub left_is_one : GraphsAreMoved → EndsAreOne → GraphsAreOne → (P : Program) (m : ℕ) (nodes others : List ℕ) → IsLeftWith P m nodes → IsLeftWith P m others → nodes ≡ others
left_is_one moves ends one P m nodes others h k =
    let same : k.graph ≡ h.graph = one P m k.graph h.graph k.is_graph h.is_graph in
    let compact : IsCompact h.graph k.compact k.node = subst (λ (g : Digraph). IsCompact g k.compact k.node) same k.is_compact in
    h.nodes_are ∙ (one_left h.graph h.compact k.compact h.node k.node (moves P m h.graph h.compact h.node (inl h.is_graph) h.is_compact) (moves P m h.graph k.compact k.node (inl h.is_graph) compact) ends h.left k.left h.leaves k.leaves ∙ sym k.nodes_are)
