-- Of two compact graphs of one graph, both are reducible or none.
use Rattle.std.proofs.Common.{◌≡◌, ◌≢◌, ℕ, ◌<◌, List, [], sym, ap, ◌∙◌, subst, inl, inr, arith}
use Rattle.std.proofs.lemmas.Bool.{cases_lt}
use Rattle.loop_nest.specs.Digraph.{Digraph, Edge}
use Rattle.loop_nest.specs.Reduction.{Leaves, IsReducible}
use Rattle.loop_nest.specs.Laws.{PartsAreReducible, ReductionHasOneEnd}
use Rattle.loop_nest.proofs.Ends.{ends_within}
use Rattle.compact_walks.specs.Moving.{IsMoved}
use Rattle.compact_walks.proofs.Renumbering.{same_node}
use Rattle.compact_walks.proofs.Walks.{reached_out}

module _ (g d e : Digraph) (node other : ℕ → ℕ) (c : IsMoved g d node) (k : IsMoved g e other) where
  -- the node of the other compact graph
  pub there : (u : ℕ) → u < d.nodes → (v : ℕ) × (v < e.nodes) × (other v ≡ node u)
  there u lt = k.compact.all (node u) (reached_out g d node c u lt)

  abbrev pub over : ℕ → ℕ
  over u = elim (cases_lt u d.nodes) [ inl lt ↦ (there u lt).0 | inr ge ↦ 0 ]

  over_is : (u : ℕ) → u < d.nodes → (over u < e.nodes) × (other (over u) ≡ node u)
  unfolding there
  over_is u lt = elim (cases_lt u d.nodes) as (λ o. ((elim o [ inl lt ↦ (there u lt).0 | inr ge ↦ 0 ]) < e.nodes) × (other (elim o [ inl lt ↦ (there u lt).0 | inr ge ↦ 0 ]) ≡ node u)) [
    | inl less ↦ ((there u less).1, (there u less).2)
    | inr ge ↦ absurd (omega arith)
  ]

  same : (u v : ℕ) → u < e.nodes → v < e.nodes → other u ≡ other v → u ≡ v
  same = same_node e.nodes other k.compact.rising

  pub reducible_too : PartsAreReducible → IsReducible e → IsReducible d
  reducible_too law reducible = law e d over k.compact.digraph reducible c.compact.digraph (record {
    entry = (let a = over_is 0 c.compact.digraph.entry in same (over 0) 0 a.0 k.compact.digraph.entry (a.1 ∙ (c.compact.entry ∙ sym k.compact.entry)));
    distinct = λ u v lu lv one. same_node d.nodes node c.compact.rising u v lu lv (sym (over_is u lu).1 ∙ (ap other one ∙ (over_is v lv).1));
    edges = λ u v edge.
        let ends = ends_within c.compact.digraph u v edge in
        let a = over_is u ends.0 in
        let b = over_is v ends.1 in
        let out = ((c.compact.edges u v).0 edge).2 in
        (k.compact.edges (over u) (over v)).1 (a.0, b.0, subst (λ (z : ℕ). Edge g z (other (over v))) (sym a.1) (subst (λ (z : ℕ). Edge g (node u) z) (sym b.1) out));
    reached = c.compact.reached;
  })

  -- so where the reduction of one leaves nodes, the other isn't reducible
  pub left_over : PartsAreReducible → ReductionHasOneEnd → (left : List ℕ) → Leaves d left → left ≢ [] → IsReducible e → ⊥
  left_over law ends left leaves some reducible = some (ends d left [] c.compact.reached leaves (reducible_too law reducible))
