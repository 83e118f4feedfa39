-- Where a graph's compact graph is reducible, so is that of a part of it, whose headers are headers of the whole.
use Rattle.std.proofs.Common.{◌≡◌, ℕ, ◌<◌, List, sym, ap, ◌∙◌, subst, arith}
use Rattle.loop_nest.specs.Digraph.{Digraph, Edge}
use Rattle.loop_nest.specs.Walks.{Walk, IsHeader}
use Rattle.loop_nest.specs.Parts.{IsReachedPart}
use Rattle.loop_nest.specs.Laws.{PartsAreReducible, PartsHaveHeaders, ReductionHasOneEnd}
use Rattle.loop_nest.specs.Walks.Walk.{stay, along}
use Rattle.loop_nest.specs.Reduction.{IsReducible}
use Rattle.loop_nest.proofs.Ends.{ends_within}
use Rattle.compact_walks.specs.Moving.{IsMoved}
use Rattle.compact_walks.specs.Laws.{PartsAreSound, EndsAreOne}
use Rattle.compact_walks.proofs.Walks.{apart, edge_in, edge_out, header_out, header_back, reached_out}
use Rattle.compact_walks.proofs.Greatest.{number_in, number_in_is}

module _ (whole part dw dp : Digraph) (nw np : ℕ → ℕ) (w : IsMoved whole dw nw) (p : IsMoved part dp np) (within : (u v : ℕ) → Edge part u v → Edge whole u v) where
  reach_whole : {x y : ℕ} {ns : List ℕ} → Walk part x y ns → Walk whole x y ns
  reach_whole stay = stay
  reach_whole (along {u} {v} e t) = along (within u v e) (reach_whole t)

  -- the node of the whole's compact graph that a node of the part's is
  at : (u : ℕ) → u < dp.nodes → (x : ℕ) × (x < dw.nodes) × (nw x ≡ np u)
  at u lu = let r = reached_out part dp np p u lu in w.compact.all (np u) (r.0, reach_whole r.1)

  abbrev pub f : ℕ → ℕ
  f u = number_in nw dw.nodes (np u)

  f_at : (u : ℕ) → u < dp.nodes → (f u < dw.nodes) × (nw (f u) ≡ np u)
  f_at u lu =
      let a = at u lu in
      let is : f u ≡ a.0 = subst (λ (z : ℕ). number_in nw dw.nodes z ≡ a.0) a.2 (number_in_is whole dw nw w dw.nodes a.0 (omega arith) a.1) in
      (subst (λ (z : ℕ). z < dw.nodes) (sym is) a.1, ap nw is ∙ a.2)

  f_entry : f 0 ≡ 0
  f_entry =
      let lt = w.compact.digraph.entry in
      ap (number_in nw dw.nodes) (p.compact.entry ∙ sym w.compact.entry) ∙ number_in_is whole dw nw w dw.nodes 0 (omega arith) lt

  pub reached_part : IsReachedPart dw dp f
  reached_part = record {
    entry = f_entry;
    distinct = λ u v lu lv same. apart part dp np p u v lu lv (sym (f_at u lu).1 ∙ ap nw same ∙ (f_at v lv).1);
    edges = λ u v e.
        let ends = ends_within p.compact.digraph u v e in
        let a = f_at u ends.0 in
        let b = f_at v ends.1 in
        edge_in whole dw nw w (f u) (f v) a.0 b.0
        (subst (λ (z : ℕ). Edge whole z (nw (f v))) (sym a.1) (subst (λ (z : ℕ). Edge whole (np u) z) (sym b.1) (within (np u) (np v) (edge_out part dp np p u v e))));
    reached = p.compact.reached;
  }

  pub header_of_whole : PartsHaveHeaders → IsReducible dw → (x : ℕ) → IsHeader part x → IsHeader whole x
  header_of_whole law reducible x head =
      let r = header_back part dp np p x head in
      let inner = law dw dp f w.compact.digraph reducible p.compact.digraph reached_part r.0 r.2 in
      subst (λ (z : ℕ). IsHeader whole z) ((f_at r.0 r.1).1 ∙ r.3) (header_out whole dw nw w (f r.0) inner)

pub parts_are_sound : PartsAreReducible → PartsHaveHeaders → PartsAreSound
parts_are_sound reducible headers whole part dw dp nw np w p within red = record {
  reducible = reducible dw dp (f whole part dw dp nw np w p within) w.compact.digraph red p.compact.digraph (reached_part whole part dw dp nw np w p within);
  headers = header_of_whole whole part dw dp nw np w p within headers red;
}

pub ends_are_one : ReductionHasOneEnd → EndsAreOne
ends_are_one law g d node c left others a b = law d left others c.reached a b
