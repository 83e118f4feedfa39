-- With what a local variable begins by the further rules is one int at most, since control comes into the loop from somewhere, and something or nothing was
-- written last on the way.
use Rattle.std.proofs.Common.{◌≡◌, ◌≢◌, ℕ, ℤ, Option, Some, refl, sym, ◌∙◌, subst, inl}
use Rattle.lists.proofs.Lemmas.{some_same}
use Rattle.bytecode_model.specs.Program.{Program}
use Rattle.loop_nest.specs.Digraph.{Digraph, Edge}
use Rattle.loop_nest.specs.Walks.{IsEntering, IsHeader, IsMember, IsReachable}
use Rattle.loop_nest.specs.Laws.{HeaderDominatesMembers, WalksComeByEdges}
use Rattle.method_flow.specs.Nodes.{Node, IsEdge, IsReached, number_of}
use Rattle.method_flow.specs.Graphs.{IsGraphOf}
use Rattle.compact_walks.proofs.Walks.{step_on}
use Rattle.code_lines.specs.Lines.{IsNamed}
use Rattle.loop_rules.specs.Further.Known.{Known, Pushes, Stores}
use Rattle.loop_rules.specs.Further.Known.Stores.{stores}
use Rattle.loop_rules.specs.Further.Writing.{MayBeLast}
use Rattle.loop_rules.specs.Further.Laws.{LastWritesExist, LastWritesWrite, PushedAreOne}
use Rattle.loop_finder.specs.Further.{BeginningsAreOne}
use Rattle.loop_finder.proofs.Ranking.{from_reached}

module _ (P : Program) (m : ℕ) (g : Digraph) (is : IsGraphOf P m g) where
  -- the node from which an edge leads
  pub source_of : (u v : ℕ) → Edge g u v → (n : Node) × (number_of n ≡ u) × IsReached (IsEdge P m) n
  source_of u v e = let r = (is.edges u v).0 e in (r.source, sym r.numbered.0, r.reached)

  -- a loop with another header than node 0 is entered
  pub entered : WalksComeByEdges → HeaderDominatesMembers → (h : ℕ) → IsHeader g h → h ≢ 0 → (u : Node) × IsEntering g h (number_of u) h × IsReached (IsEdge P m) u
  entered come dominates h header nonzero =
      let edge : Edge g header.0 h = header.1.edge in
      let way : IsReachable g h = step_on (from_reached P m g is header.0 h edge).1 edge in
      let r = come g 0 h way.0 way.1 nonzero in
      let s = source_of r.0 h r.1 in
      let outside : ¬ IsMember g h r.0 = λ member. r.2.2 (dominates g h r.0 member r.2.0 r.2.1) in (
        s.0,
        record {
          edge = subst (λ (z : ℕ). Edge g z h) (sym s.1) r.1;
          outside = subst (λ (z : ℕ). ¬ IsMember g h z) (sym s.1) outside;
          inside = (header, inl refl);
        },
        s.2,
      )

-- what is stored is pushed directly before
pub stores_at : {P : Program} {known : Known} {m k : ℕ} {o : Option ℕ} {c : ℤ} → Stores P known m k o c
    → (p : ℕ) × (o ≡ Some p) × (from : ℕ) × Pushes P known m from p c × (¬ IsNamed P m p)
stores_at (stores {from = from} {w = w} pushes line free) = (w, refl, from, pushes, free)

pub beginnings_are_one : WalksComeByEdges → HeaderDominatesMembers → LastWritesExist → LastWritesWrite → PushedAreOne → BeginningsAreOne
beginnings_are_one come dominates exist write pushed P known m g h local c d is stays header a b =
    let e = entered P m g is come dominates h header a.entered in
    let last = exist P m local e.0 stays e.2 in
    let x = stores_at (a.stored e.0 last.0 e.1 last.1) in
    let y = stores_at (b.stored e.0 last.0 e.1 last.1) in
    let same : y.0 ≡ x.0 = some_same y.0 x.0 (sym y.1 ∙ x.1) in
    let reached = (write P m local x.0 e.0 (subst (λ (o : Option ℕ). MayBeLast P m local e.0 o) x.1 last.1)).0 in
    (pushed P known m x.2 y.2 x.0 c d (record { stays = stays; reached = reached; unnamed = x.4 }) x.3 (subst (λ (q : ℕ). Pushes P known m y.2 q d) same y.3)).1
