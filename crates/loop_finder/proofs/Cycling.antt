-- In a method's graph that is reducible, every cycle takes a back edge.
use Rattle.std.proofs.Common.{◌≡◌, ℕ, List, ◌∷◌, ◌++◌, map, sym, ap, ap₂, ◌∙◌, subst, inl}
use Rattle.std.proofs.lemmas.List.{map-append}
use Rattle.loop_nest.specs.Digraph.{Digraph, Edge}
use Rattle.loop_nest.specs.Walks.{Walk}
use Rattle.loop_nest.specs.Reduction.{IsReducible}
use Rattle.loop_nest.specs.Laws.{CyclesTakeBackEdges}
use Rattle.compact_walks.specs.Moving.{IsMoved}
use Rattle.compact_walks.specs.Laws.{GraphsAreMoved}
use Rattle.compact_walks.proofs.Walks.{ends_back, edge_in, walk_back, apart, back_edge_out}
use Rattle.loop_rules.specs.Counted.{EachCycleIsALoop}
use Rattle.loop_finder.specs.Laws.{ReducibleCyclesAreLoops}

module _ (law : CyclesTakeBackEdges) (g d : Digraph) (node : ℕ → ℕ) (h : IsMoved g d node) (reducible : IsReducible d) where
  each_cycle : EachCycleIsALoop g
  each_cycle u v ns e w =
      let ends = ends_back g d node h u v e in
      let a = ends.0 in
      let b = ends.1 in
      let edge : Edge d a b = edge_in g d node h a b ends.2 ends.3 (subst (λ (z : ℕ). Edge g z (node b)) (sym ends.4) (subst (λ (z : ℕ). Edge g u z) (sym ends.5) e)) in
      let back = walk_back g d node h w b ends.3 ends.5 in
      let same : back.target ≡ a = apart g d node h back.target a back.below ends.2 (back.is ∙ sym ends.4) in
      let walk : Walk d b a back.nodes = subst (λ (z : ℕ). Walk d b z back.nodes) same back.walk in
      let taken = law d h.compact.digraph reducible a b back.nodes edge walk in
      let nodes : map node (a ∷ back.nodes) ≡ u ∷ ns = ap₂ (λ (x : ℕ) (xs : List ℕ). x ∷ xs) ends.4 back.are in
      let parts : u ∷ ns ≡ map node taken.2.0 ++ node taken.0 ∷ node taken.1 ∷ map node taken.2.1 = sym nodes ∙ (ap (map node) taken.2.2 ∙ map-append node taken.2.0 (taken.0 ∷ taken.1 ∷ taken.2.1)) in
      (node taken.0, node taken.1, (map node taken.2.0, map node taken.2.1, parts), back_edge_out g d node h taken.0 taken.1 taken.3)

pub reducible_cycles : CyclesTakeBackEdges → GraphsAreMoved → ReducibleCyclesAreLoops
reducible_cycles law moved P m g is r = each_cycle law g r.compact r.node (moved P m g r.compact r.node (inl is) r.is_compact) r.reducible
