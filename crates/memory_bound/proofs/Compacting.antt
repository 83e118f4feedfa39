-- Walks of a method's graph and of its shape.
use Rattle.std.proofs.Common.{◌≡◌, ◌↔◌, ℕ, ◌<◌, List, [], ◌∷◌, length, map, get_or, Contains, sym, ap, ◌∙◌, subst, inl, inr, arith}
use Rattle.std.proofs.lemmas.List.{length-map}
use Rattle.lists.specs.Members.{cons_cases, nil_contains}
use Rattle.loop_nest.specs.Digraph.{Digraph, Edge}
use Rattle.loop_nest.specs.Walks.{Walk, IsReachable, IsHeader, IsMember}
use Rattle.loop_nest.specs.Walks.Walk.{stay, along}
use Rattle.loop_nest.specs.Nest.{NaturalLoop, header_at, members_at, IsLoopOf, IsNest}
use Rattle.loop_nest.proofs.Ends.{walk_on}
use Rattle.loop_nest.proofs.Elements.{range_contains}
use Rattle.bytecode_model.specs.Program.{Program}
use Rattle.compact_walks.specs.Moving.{IsMoved, moved_nest, moved_natural}
use Rattle.compact_walks.specs.Laws.{GraphsAreMoved, MovedIsNest}
use Rattle.compact_walks.proofs.Renumbering.{AreBelow}
use Rattle.compact_walks.proofs.Loops.{no_loop, header_of, members_of, header_moved, members_moved}
use Rattle.memory_bound.specs.declared.shapes.Shape.{Shape}
use Rattle.memory_bound.specs.Shapes.{node_of, IsShapeIn, IsShapeOf}
use Rattle.memory_bound.proofs.SameEdges.{nest_as}

module _ (g : Digraph) (s : Shape) (shape : IsShapeIn g s) where
  pub edges_are : s.graph.edges ≡ shape.compact.edges
  edges_are = ap (λ (d : Digraph). d.edges) shape.graph

  pub nodes_are : s.graph.nodes ≡ shape.compact.nodes
  nodes_are = ap (λ (d : Digraph). d.nodes) shape.graph

  pub edge_out : (u v : ℕ) → Edge s.graph u v → Edge shape.compact u v
  edge_out u v e = subst (λ (es : List (ℕ × ℕ)). Contains es (u, v)) edges_are e

  pub edge_in : (u v : ℕ) → Edge shape.compact u v → Edge s.graph u v
  edge_in u v e = subst (λ (es : List (ℕ × ℕ)). Contains es (u, v)) (sym edges_are) e

  pub exit_in : (u : ℕ) → u < shape.compact.nodes → Contains s.graph.exits u
  exit_in u lt = subst (λ (d : Digraph). Contains d.exits u) (sym shape.graph) (range_contains shape.compact.nodes u lt)

  pub entry_below : 0 < shape.compact.nodes
  entry_below = shape.is_compact.digraph.entry

  -- ---- walks

  pub walk_out : {u v : ℕ} {ns : List ℕ} → Walk s.graph u v ns → Walk g (node_of s u) (node_of s v) (map (node_of s) ns)
  walk_out stay = stay
  walk_out (along {u} {v} e t) = along ((shape.is_compact.edges u v).0 (edge_out u v e)).2 (walk_out t)

  pub from_entry : {v : ℕ} {ns : List ℕ} → Walk s.graph 0 v ns → Walk g 0 (node_of s v) (map (node_of s) ns)
  from_entry {v} {ns} walk = subst (λ (x : ℕ). Walk g x (node_of s v) (map (node_of s) ns)) shape.is_compact.entry (walk_out walk)

  pub walk_below : {u v : ℕ} {ns : List ℕ} → Walk s.graph u v ns → u < shape.compact.nodes → AreBelow shape.compact.nodes ns
  walk_below (stay {u}) lt x has =
      elim (cons_cases u x [] has) [
        | inl same ↦ subst (λ (z : ℕ). z < shape.compact.nodes) same lt
        | inr later ↦ absurd (nil_contains x later)
      ]
  walk_below (along {u} {v} {w} {ns} e t) lt x has =
      elim (cons_cases u x ns has) [
        | inl same ↦ subst (λ (z : ℕ). z < shape.compact.nodes) same lt
        | inr later ↦ walk_below t ((shape.is_compact.edges u v).0 (edge_out u v e)).1 x later
      ]

  pub end_below : {u v : ℕ} {ns : List ℕ} → Walk s.graph u v ns → u < shape.compact.nodes → v < shape.compact.nodes
  end_below stay lt = lt
  end_below (along {u} {v} e t) lt = end_below t ((shape.is_compact.edges u v).0 (edge_out u v e)).1

  pub reached_in : (u : ℕ) → u < shape.compact.nodes → IsReachable s.graph u
  reached_in u lt = let r = shape.is_compact.reached u lt in (r.0, in_graph r.1)
    where
      in_graph : {x y : ℕ} {ns : List ℕ} → Walk shape.compact x y ns → Walk s.graph x y ns
      in_graph stay = stay
      in_graph (along {u} {v} e t) = along (edge_in u v e) (in_graph t)

  pub reached_out : (u : ℕ) → u < shape.compact.nodes → IsReachable g (node_of s u)
  reached_out u lt = let r = reached_in u lt in (map (node_of s) r.0, from_entry r.1)

  -- a walk of the graph as one of the shape
  pub record Back (u : ℕ) (ms : List ℕ) : Type 0 where
    pub target : ℕ
    pub nodes : List ℕ
    pub are : map (node_of s) nodes ≡ ms
    pub walk : Walk s.graph u target nodes

  pub walk_back : {x y : ℕ} {ms : List ℕ} → Walk g x y ms → (u : ℕ) → u < shape.compact.nodes → node_of s u ≡ x → Back u ms
  walk_back (stay {u = x}) u lt is = record { target = u; nodes = u ∷ []; are = ap (λ (z : ℕ). z ∷ []) is; walk = stay }
  walk_back (along {u = x} {v = z} {w = y} {ns = ms} e t) u lt is =
      let reach = reached_out u lt in
      let edge : Edge g (node_of s u) z = subst (λ (a : ℕ). Edge g a z) (sym is) e in
      let next = shape.is_compact.all z (walk_on reach.1 (along edge stay)) in
      let edge' : Edge s.graph u next.0 = edge_in u next.0 ((shape.is_compact.edges u next.0).1 (lt, next.1, subst (λ (a : ℕ). Edge g (node_of s u) a) (sym next.2) edge)) in
      let r = walk_back t next.0 next.1 next.2 in
      record { target = r.target; nodes = u ∷ r.nodes; are = cons (node_of s u) x (map (node_of s) r.nodes) ms is r.are; walk = along edge' r.walk }
    where
      cons : (a b : ℕ) (as' bs : List ℕ) → a ≡ b → as' ≡ bs → a ∷ as' ≡ b ∷ bs
      cons a b as' bs h k = cc

  pub from_entry_back : {y : ℕ} {ms : List ℕ} → Walk g 0 y ms → Back 0 ms
  from_entry_back walk = walk_back walk 0 entry_below shape.is_compact.entry

  -- ---- loops

  module _ (nests : MovedIsNest) (moved : IsMoved g shape.compact (node_of s)) where
    pub own_nest : IsNest shape.compact s.nest
    own_nest = nest_as s.graph shape.compact edge_out edge_in s.nest shape.nest

    pub nest_out : IsNest g (moved_nest (node_of s) s.nest)
    nest_out = nests g shape.compact (node_of s) moved s.nest own_nest

    moved_long : length (moved_nest (node_of s) s.nest) ≡ length s.nest
    moved_long = length-map s.nest (moved_natural (node_of s))

    module _ (i : ℕ) (lt : i < length s.nest) where
      moved_at : NaturalLoop
      moved_at = get_or (moved_nest (node_of s) s.nest) i no_loop

      lt' : i < length (moved_nest (node_of s) s.nest)
      lt' = omega (arith, moved_long)

      is_loop : IsLoopOf g (get_or (moved_nest (node_of s) s.nest) i no_loop)
      is_loop = nest_out.loops i no_loop lt'

      head_is : (get_or (moved_nest (node_of s) s.nest) i no_loop).header ≡ node_of s (header_at s.nest i)
      head_is = sym (header_of (moved_nest (node_of s) s.nest) i no_loop lt') ∙ header_moved (node_of s) s.nest i lt

      members_is : (get_or (moved_nest (node_of s) s.nest) i no_loop).members ≡ map (node_of s) (members_at s.nest i)
      members_is = sym (members_of (moved_nest (node_of s) s.nest) i no_loop lt') ∙ members_moved (node_of s) s.nest i

      pub header_out : IsHeader g (node_of s (header_at s.nest i))
      header_out = subst (λ (x : ℕ). IsHeader g x) head_is is_loop.header

      pub members_out : (x : ℕ) → Contains (map (node_of s) (members_at s.nest i)) x ↔ IsMember g (node_of s (header_at s.nest i)) x
      members_out x = (
        λ has. subst (λ (h : ℕ). IsMember g h x) head_is ((is_loop.members x).0 (subst (λ (ms : List ℕ). Contains ms x) (sym members_is) has)),
        λ m. subst (λ (ms : List ℕ). Contains ms x) members_is ((is_loop.members x).1 (subst (λ (h : ℕ). IsMember g h x) (sym head_is) m)),
      )

      own_loop : IsLoopOf s.graph (get_or s.nest i no_loop)
      own_loop = shape.nest.loops i no_loop lt

      pub own_members : (x : ℕ) → Contains (members_at s.nest i) x ↔ IsMember s.graph (header_at s.nest i) x
      own_members x =
          let head : (get_or s.nest i no_loop).header ≡ header_at s.nest i = sym (header_of s.nest i no_loop lt) in
          let all : (get_or s.nest i no_loop).members ≡ members_at s.nest i = sym (members_of s.nest i no_loop lt) in (
            λ has. subst (λ (h : ℕ). IsMember s.graph h x) head ((own_loop.members x).0 (subst (λ (ms : List ℕ). Contains ms x) (sym all) has)),
            λ m. subst (λ (ms : List ℕ). Contains ms x) all ((own_loop.members x).1 (subst (λ (h : ℕ). IsMember s.graph h x) (sym head) m)),
          )

pub is_moved : GraphsAreMoved → (P : Program) (m : ℕ) (s : Shape) (h : IsShapeOf P m s) → IsMoved h.graph h.shape.compact (node_of s)
is_moved moves P m s h = moves P m h.graph h.shape.compact (node_of s) (inl h.is_graph) h.shape.is_compact
