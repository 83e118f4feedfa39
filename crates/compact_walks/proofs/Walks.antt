-- Walks, back edges and members keep under the other numbers of a compact graph.
use Rattle.std.proofs.Common.{◌≡◌, ℕ, ◌<◌, List, [], ◌∷◌, map, Contains, refl, sym, ap, ap₂, subst, inl, inr}
use Rattle.lists.specs.Members.{at_head, map_contains}
use Rattle.loop_nest.specs.Digraph.{Digraph, IsDigraph, Edge}
use Rattle.loop_nest.specs.Walks.{Walk, LeadsAround, IsReachable, IsBackEdge, IsHeader, IsMember, ReachesBackEdge}
use Rattle.loop_nest.specs.Walks.Walk.{stay, along}
use Rattle.loop_nest.proofs.Ends.{ends_within, visited_within, walk_on}
use Rattle.path_solver.specs.Reaching.{ReachesExit}
use Rattle.method_flow.specs.Nodes.{Node, number_of, IsEdge, IsReached}
use Rattle.method_flow.specs.Live.{IsLiveEdge}
use Rattle.method_flow.specs.Nodes.IsReached.{first, later}
use Rattle.method_flow.specs.Compact.{IsCompact}
use Rattle.method_flow.specs.Graphs.{IsGraphBy}
use Rattle.bytecode_model.specs.Program.{Program}
use Rattle.compact_walks.specs.Moving.{IsMoved}
use Rattle.compact_walks.specs.Laws.{GraphsAreMoved, MovedIsRenumbered, MovedReachesExit, MovedHeaders}
use Rattle.compact_walks.proofs.Renumbering.{same_node, moved_back}

pub start_visited : {g : Digraph} {u v : ℕ} {ns : List ℕ} → Walk g u v ns → Contains ns u
start_visited (stay {u}) = at_head u []
start_visited (along {u} {v} {w} {ns} e t) = at_head u ns

-- a walk of a part is one of the whole
mapped_walk : {whole part : Digraph} (f : ℕ → ℕ) → ((u v : ℕ) → Edge part u v → Edge whole (f u) (f v)) → {u v : ℕ} {ns : List ℕ} → Walk part u v ns → Walk whole (f u) (f v) (map f ns)
mapped_walk f es stay = stay
mapped_walk f es (along {u} {v} {w} {ns} e t) = along (es u v e) (mapped_walk f es t)

-- a walk and one edge more
pub step_on : {g : Digraph} {u v w : ℕ} {ns : List ℕ} → Walk g u v ns → Edge g v w → (ks : List ℕ) × Walk g u w ks
step_on {g} {u} {v} {w} t e = walk_on t (along e stay)

-- what has an edge, or leads to a node that has one, is reached where what has an edge is
pub source_reached : {g : Digraph} {x y z : ℕ} {ns : List ℕ} → ((u v : ℕ) → Edge g u v → IsReachable g u) → Walk g x y ns → Edge g y z → IsReachable g x
source_reached reach (stay {u}) e = reach u _ e
source_reached reach (along {u} {v} e t) f = reach u v e

end_below : {g : Digraph} → IsDigraph g → {u v : ℕ} {ns : List ℕ} → Walk g u v ns → u < g.nodes → v < g.nodes
end_below wf stay below = below
end_below wf (along {u} {v} e t) below = end_below wf t (ends_within wf u v e).1

-- a walk under the other numbers, put back
pub record Back (d : Digraph) (node : ℕ → ℕ) (u y : ℕ) (ms : List ℕ) : Type 0 where
  pub target : ℕ
  pub below : target < d.nodes
  pub is : node target ≡ y
  pub nodes : List ℕ
  pub are : map node nodes ≡ ms
  pub walk : Walk d u target nodes

module _ (g d : Digraph) (node : ℕ → ℕ) (h : IsMoved g d node) where
  pub edge_out : (u v : ℕ) → Edge d u v → Edge g (node u) (node v)
  edge_out u v e = let r = (h.compact.edges u v).0 e in r.2

  pub edge_in : (u v : ℕ) → u < d.nodes → v < d.nodes → Edge g (node u) (node v) → Edge d u v
  edge_in u v lu lv e = (h.compact.edges u v).1 (lu, lv, e)

  pub walk_out : {u v : ℕ} {ns : List ℕ} → Walk d u v ns → Walk g (node u) (node v) (map node ns)
  walk_out t = mapped_walk {whole = g} {part = d} node edge_out t

  pub from_entry : {v : ℕ} {ns : List ℕ} → Walk d 0 v ns → Walk g 0 (node v) (map node ns)
  from_entry {v} {ns} t = subst (λ (z : ℕ). Walk g z (node v) (map node ns)) h.compact.entry (walk_out t)

  pub reached_out : (u : ℕ) → u < d.nodes → IsReachable g (node u)
  reached_out u lu = let r = h.compact.reached u lu in (map node r.0, from_entry r.1)

  pub apart : (u v : ℕ) → u < d.nodes → v < d.nodes → node u ≡ node v → u ≡ v
  apart = same_node d.nodes node h.compact.rising

  pub walk_back : {x y : ℕ} {ms : List ℕ} → Walk g x y ms → (u : ℕ) → u < d.nodes → node u ≡ x → Back d node u y ms
  walk_back (stay {u = x}) u lu same = record { target = u; below = lu; is = same; nodes = u ∷ []; are = ap (λ (z : ℕ). z ∷ []) same; walk = stay }
  walk_back (along {u = x} {v = v} {w = w} {ns = ns} e t) u lu same =
      let to_x = subst (λ (z : ℕ). IsReachable g z) same (reached_out u lu) in
      let at = h.compact.all v (step_on to_x.1 e) in
      let edge = edge_in u at.0 lu at.1 (subst (λ (z : ℕ). Edge g z (node at.0)) (sym same) (subst (λ (z : ℕ). Edge g x z) (sym at.2) e)) in
      let r = walk_back t at.0 at.1 at.2 in
      record { target = r.target; below = r.below; is = r.is; nodes = u ∷ r.nodes; are = ap₂ (λ (a : ℕ) (b : List ℕ). a ∷ b) same r.are; walk = along edge r.walk }

  pub from_entry_back : {y : ℕ} {ms : List ℕ} → Walk g 0 y ms → Back d node 0 y ms
  from_entry_back t = walk_back t 0 h.compact.digraph.entry h.compact.entry

  -- ---- exits

  pub exit_out : ReachesExit d 0 → ReachesExit g 0
  exit_out r = record { exit = node r.exit; among = (let e = (h.compact.exits r.exit).0 r.among in e.1); nodes = map node r.nodes; walk = from_entry r.walk }

  pub exit_in : (u : ℕ) → u < d.nodes → Contains g.exits (node u) → Contains d.exits u
  exit_in u lu has = (h.compact.exits u).1 (lu, has)

  pub exit_back : ReachesExit g 0 → ReachesExit d 0
  exit_back r =
      let b = from_entry_back r.walk in
      record { exit = b.target; among = exit_in b.target b.below (subst (λ (z : ℕ). Contains g.exits z) (sym b.is) r.among); nodes = b.nodes; walk = b.walk }

  -- ---- back edges

  -- a walk that comes back visits the same nodes
  pub visits_back : {y : ℕ} {ms : List ℕ} (u k : ℕ) → (b : Back d node u y ms) → k < d.nodes → Contains ms (node k) → Contains b.nodes k
  visits_back u k b lk has =
      moved_back d.nodes node h.compact.rising b.nodes (visited_within h.compact.digraph b.walk b.below) k lk (subst (λ (zs : List ℕ). Contains zs (node k)) (sym b.are) has)

  pub back_edge_out : (u k : ℕ) → IsBackEdge d u k → IsBackEdge g (node u) (node k)
  back_edge_out u k e =
      let ends = ends_within h.compact.digraph u k e.edge in
      record {
        edge = edge_out u k e.edge;
        dominates = λ ms t.
            let b = from_entry_back t in
            let to_u = subst (λ (z : ℕ). Walk d 0 z b.nodes) (apart b.target u b.below ends.0 b.is) b.walk in
            subst (λ (zs : List ℕ). Contains zs (node k)) b.are (map_contains node b.nodes k (e.dominates b.nodes to_u));
      }

  pub back_edge_in : (u k : ℕ) → u < d.nodes → k < d.nodes → IsBackEdge g (node u) (node k) → IsBackEdge d u k
  back_edge_in u k lu lk e = record {
    edge = edge_in u k lu lk e.edge;
    dominates = λ ns t.
        let has = e.dominates (map node ns) (from_entry t) in
        moved_back d.nodes node h.compact.rising ns (visited_within h.compact.digraph t lu) k lk has;
  }

  pub header_out : (k : ℕ) → IsHeader d k → IsHeader g (node k)
  header_out k e = (node e.0, back_edge_out e.0 k e.1)

  -- the ends of an edge are nodes of the compact graph
  pub ends_back : (x y : ℕ) → Edge g x y → (u v : ℕ) × (u < d.nodes) × (v < d.nodes) × (node u ≡ x) × (node v ≡ y)
  ends_back x y e =
      let from = h.edges x y e in
      let u = h.compact.all x from in
      let v = h.compact.all y (step_on from.1 e) in
      (u.0, v.0, u.1, v.1, u.2, v.2)

  pub header_in : (k : ℕ) → k < d.nodes → IsHeader g (node k) → IsHeader d k
  header_in k lk e =
      let u = h.compact.all e.0 (h.edges e.0 (node k) e.1.edge) in
      (u.0, back_edge_in u.0 k u.1 lk (subst (λ (z : ℕ). IsBackEdge g z (node k)) (sym u.2) e.1))

  pub header_back : (x : ℕ) → IsHeader g x → (k : ℕ) × (k < d.nodes) × IsHeader d k × (node k ≡ x)
  header_back x e =
      let ends = ends_back e.0 x e.1.edge in
      (ends.1, ends.3, header_in ends.1 ends.3 (subst (λ (z : ℕ). IsHeader g z) (sym ends.5) e), ends.5)

  -- ---- members

  around_out : (k x u : ℕ) → k < d.nodes → u < d.nodes → LeadsAround d k x u → LeadsAround g (node k) (node x) (node u)
  around_out k x u lk lu r =
      (map node r.0, walk_out r.1, λ has. r.2 (moved_back d.nodes node h.compact.rising r.0 (visited_within h.compact.digraph r.1 lu) k lk has))

  pub member_out : (k x : ℕ) → IsMember d k x → IsMember g (node k) (node x)
  member_out k x m = (
    header_out k m.0,
    elim m.1 [
      | inl same ↦ inl (ap node same)
      | inr r ↦
          let ends = ends_within h.compact.digraph r.source k r.back_edge.edge in
          inr (record { source = node r.source; back_edge = back_edge_out r.source k r.back_edge; leads = around_out k x r.source ends.1 ends.0 r.leads })
    ],
  )

  -- what reaches a back edge is a node of the compact graph, and reaches one there
  reaches_in : (k : ℕ) → k < d.nodes → (y : ℕ) (r : ReachesBackEdge g (node k) y) → (x : ℕ) × (x < d.nodes) × (node x ≡ y) × ReachesBackEdge d k x
  reaches_in k lk y r =
      let at = h.compact.all y (source_reached h.edges r.leads.1 r.back_edge.edge) in
      let b = walk_back r.leads.1 at.0 at.1 at.2 in
      let back = back_edge_in b.target k b.below lk (subst (λ (z : ℕ). IsBackEdge g z (node k)) (sym b.is) r.back_edge) in (
        at.0,
        at.1,
        at.2,
        record {
          source = b.target;
          back_edge = back;
          leads = (b.nodes, b.walk, λ has. r.leads.2 (subst (λ (zs : List ℕ). Contains zs (node k)) b.are (map_contains node b.nodes k has)));
        },
      )

  pub member_back : (k : ℕ) → k < d.nodes → (y : ℕ) → IsMember g (node k) y → (x : ℕ) × (x < d.nodes) × (node x ≡ y) × IsMember d k x
  member_back k lk y m =
      let head = header_in k lk m.0 in
      elim m.1 [
        | inl same ↦ (k, lk, sym same, (head, inl refl))
        | inr r ↦ let b = reaches_in k lk y r in (b.0, b.1, b.2, (head, inr b.3))
      ]

  pub member_in : (k x : ℕ) → k < d.nodes → x < d.nodes → IsMember g (node k) (node x) → IsMember d k x
  member_in k x lk lx m =
      let b = member_back k lk (node x) m in
      subst (λ (z : ℕ). IsMember d k z) (apart b.0 x b.1 lx b.2) b.3

-- ---- laws

pub moved_reaches_exit : MovedReachesExit
moved_reaches_exit g d node h = (exit_out g d node h, exit_back g d node h)

pub moved_headers : MovedHeaders
moved_headers g d node h x = (header_back g d node h x, λ r. subst (λ (z : ℕ). IsHeader g z) r.3 (header_out g d node h r.0 r.2))

pub moved_is_renumbered : MovedIsRenumbered
moved_is_renumbered g d node h = record {
  digraph = h.compact.digraph;
  entry = h.compact.entry;
  within = within;
  rising = λ u v less lv. h.compact.rising u v lv less;
  edges = λ x y e. let b = ends_back g d node h x y e in (b.0, b.1, edge_in g d node h b.0 b.1 b.2 b.3 (subst (λ (z : ℕ). Edge g z (node b.1)) (sym b.4) (subst (λ (z : ℕ). Edge g x z) (sym b.5) e)), b.4, b.5);
  exits = λ x e. let u = h.compact.all x (h.exits x e) in (u.0, exit_in g d node h u.0 u.1 (subst (λ (z : ℕ). Contains g.exits z) (sym u.2) e), u.2);
}
  where
    within : (u : ℕ) → u < d.nodes → node u < g.nodes
    within u lu = let r = reached_out g d node h u lu in end_below h.digraph r.1 h.digraph.entry

-- ---- graphs of methods

module _ (E : Node → Node → Type 0) (P : Program) (m : ℕ) (g : Digraph) (is : IsGraphBy E P m g) where
  reachable : {u : Node} → IsReached E u → IsReachable g (number_of u)
  reachable first = (0 ∷ [], stay)
  reachable (later {u} {v} r e) =
      let to_u = reachable r in
      step_on to_u.1 ((is.edges (number_of u) (number_of v)).1 (record { source = u; target = v; reached = r; edge = e; numbered = (refl, refl) }))

  from_edge : (u v : ℕ) → Edge g u v → IsReachable g u
  from_edge u v e = let r = (is.edges u v).0 e in subst (λ (z : ℕ). IsReachable g z) (sym r.numbered.0) (reachable r.reached)

  from_exit : (u : ℕ) → Contains g.exits u → IsReachable g u
  from_exit u e = let r = (is.exits u).0 e in subst (λ (z : ℕ). IsReachable g z) (sym r.numbered) (reachable r.reached)

  moved_by : (d : Digraph) (node : ℕ → ℕ) → IsCompact g d node → IsMoved g d node
  moved_by d node c = record { digraph = is.digraph; compact = c; edges = from_edge; exits = from_exit }

pub graphs_are_moved : GraphsAreMoved
graphs_are_moved P m g d node (inl is) c = moved_by (IsEdge P m) P m g is d node c
graphs_are_moved P m g d node (inr is) c = moved_by (IsLiveEdge P m) P m g is d node c
