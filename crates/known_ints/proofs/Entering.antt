-- Control comes to the first place, and to each other one to which an edge leads.
use Rattle.std.proofs.Common.{◌≡◌, ◌≢◌, ℕ, ◌*◌, ◌/◌, ◌<◌, Bool, false, not, ◌==◌, List, [], ◌∷◌, length, Contains, refl, sym, ap, ◌∙◌, subst, arith}
use Rattle.std.specs.Prelude.{◌↔◌, IsTrue}
use Rattle.std.proofs.lemmas.Bool.{ne_eqb}
use Rattle.std.proofs.lemmas.List.Elements.{All-contains}
use Rattle.lists.specs.Members.{contains_at, nil_contains}
use Rattle.loop_nest.specs.Digraph.{Digraph, Edge, sources_of}
use Rattle.loop_nest.proofs.Searching.{sources_has, from_sources}
use Rattle.lists.proofs.Lemmas.{some_is}
use Rattle.bytecode_model.specs.Program.{Program, Body, body_of}
use Rattle.method_flow.specs.Graphs.{IsGraphOf}
use Rattle.method_flow.specs.Nodes.{Node, At, RaiseAt, number_of, IsEdge, IsReached}
use Rattle.method_flow.specs.Nodes.IsReached.{first, later}
use Rattle.known_ints.specs.Code.{IsEntered}

-- where the list of the sources isn't empty
pub entered_where : (g : Digraph) (p : ℕ) (xs : List ℕ) (b : Bool) → p < g.nodes / 2 → xs ≡ sources_of g.edges (2 * p) → b ≡ (length xs == 0) → IsTrue (not b) ↔ IsEntered g p
entered_where g p [] b lt is e =
    ((λ t. let k : not b ≡ false = ap not e in absurd (cc)), (λ h. absurd (nil_contains h.source (subst (λ (ys : List ℕ). Contains ys h.source) (sym is) h.edge))))
entered_where g p (x ∷ xs) b lt is e = (
  (λ t. record { within = lt; source = x; edge = subst (λ (ys : List ℕ). Contains ys x) is (contains_at (x ∷ xs) 0 x (omega arith) refl) }),
  (λ h. ap not (e ∙ ne_eqb (length (x ∷ xs)) 0 (λ z. omega arith))),
)

same_at : (p q : ℕ) → At p ≡ At q → p ≡ q
same_at p q e = cc

at_of : (u : Node) (p : ℕ) → number_of u ≡ 2 * p → u ≡ At p
at_of (At q) p e = let same : q ≡ p = omega arith in ap At same
at_of (RaiseAt q) p e = absurd (omega arith)

module _ (P : Program) (m : ℕ) (g : Digraph) (of : IsGraphOf P m g) (p : ℕ) where
  -- the nodes are two for each place
  half : 2 * p < g.nodes → p < g.nodes / 2
  half lt = let size = some_is (body_of P m) (λ (b : Body). g.nodes ≡ 2 * length b.code) of.size in omega (arith, size.2)

  entered_by : {u : Node} → IsReached (IsEdge P m) u → u ≡ At p → p ≢ 0 → IsEntered g p
  entered_by (first) e later_one = absurd (later_one (sym (same_at 0 p e)))
  entered_by (later {u} {v} come edge) e later_one =
      let there : Edge g (number_of u) (2 * p) =
      (of.edges (number_of u) (2 * p)).1 (record { source = u; target = At p; reached = come; edge = subst (λ (x : Node). IsEdge P m u x) e edge; numbered = (refl, refl) }) in
      let ends = All-contains (λ (d : ℕ × ℕ). (d.0 < g.nodes) × (d.1 < g.nodes)) g.edges (number_of u, 2 * p) of.digraph.edges.ends there in
      record { within = half ends.1; source = number_of u; edge = sources_has g.edges (number_of u) (2 * p) there }

  pub entered : IsReached (IsEdge P m) (At p) → p ≢ 0 → IsEntered g p
  entered come later_one = entered_by come refl later_one

  pub comes : IsEntered g p → IsReached (IsEdge P m) (At p)
  comes e =
      let r = (of.edges e.source (2 * p)).0 (from_sources g.edges e.source (2 * p) e.edge) in
      subst (IsReached (IsEdge P m)) (at_of r.target p (sym r.numbered.1)) (later r.reached r.edge)
