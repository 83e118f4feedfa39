-- What is wrong with a section with prices in one view of it is wrong in each.
use Rattle.std.proofs.Common.{◌≡◌, ℕ, ◌^◌, ◌<◌, ◌⊎◌, List, Contains, Option, Some, slice_index, sym, ap, ◌∙◌, subst, inl, inr, arith}
use Rattle.std.proofs.lemmas.Bool.{cases_lt}
use Rattle.std.specs.Prelude.{IfSome}
use Rattle.loop_nest.specs.Digraph.{Digraph, Edge, IsBefore}
use Rattle.section_check.specs.Section.{Certified, potential, headed_by}
use Rattle.section_check.specs.Placing.{IsMisplaced}
use Rattle.section_check.specs.Placing.IsMisplaced.{lists_no_node, holds_no_node, heads_faulty, enters_aside, holds_entry, exceeds_limit}
use Rattle.section_check.specs.Least.{IsLeast}
use Rattle.bytecode_model.specs.Program.{Program}
use Rattle.method_flow.specs.Keeping.{BoundOf}
use Rattle.method_flow.specs.declared.timing.Timing.{Timing}
use Rattle.bound_rules.specs.Told.{Valued}
use Rattle.bound_rules.specs.Sections.{SectionView, IsLacking, section_bounds}
use Rattle.bound_rules.specs.Refused.{FailsAtTarget}
use Rattle.bound_rules.proofs.Views.{same_fees, edges_too, exits_too, same_size, same_cost, node_too, lacks_too}
use Rattle.priced_sections.specs.Prices.{PricedFact}
use Rattle.priced_sections.specs.Paid.{AreInPlace, paying, PaysFrom, CoversWith, EdgePays, ExitPays}
use Rattle.priced_sections.specs.Answers.{IsOutOfPlace}
use Rattle.priced_sections.specs.Answers.IsOutOfPlace.{misplaced, heads_unheld, exceeds_value}
use Rattle.fact_rules.specs.Pricing.{PricedSection, Pricing, own_facts, credit}
use Rattle.fact_rules.specs.Refused.{IsWrongIn, FailsInPlace, FailsAlongEdge, FailsOnExit}

-- ---- what is least

compared : (u v : ℕ) → (u < v) ⊎ ((v < u) ⊎ (u ≡ v))
compared u v =
    elim (cases_lt u v) [
      | inl less ↦ inl less
      | inr not_less ↦ elim (cases_lt v u) [ inl more ↦ inr (inl more) | inr not_more ↦ inr (inr (omega arith)) ]
    ]

ordered : (u v x y : ℕ) → IsBefore (u, v) (x, y) ⊎ (IsBefore (x, y) (u, v) ⊎ ((u ≡ x) × (v ≡ y)))
ordered u v x y =
    elim (compared u x) [
      | inl less ↦ inl (inl less)
      | inr other ↦
          elim other [
            | inl more ↦ inr (inl (inl more))
            | inr same ↦
                elim (compared v y) [
                  | inl less ↦ inl (inr (same, less))
                  | inr other' ↦ elim other' [ inl more ↦ inr (inl (inr (sym same, more))) | inr same' ↦ inr (inr (same, same')) ]
                ]
          ]
    ]

-- the least number with a property, and with one that implies it and is implied
one_least : (K L : ℕ → Type 0) → ((u : ℕ) → K u → L u) → ((u : ℕ) → L u → K u) → (u v : ℕ) → IsLeast K (Some u) → IsLeast L (Some v) → u ≡ v
one_least K L to from u v a b =
    elim (compared u v) [
      | inl less ↦ absurd (b.1 u less (to u a.0))
      | inr other ↦ elim other [ inl more ↦ absurd (a.1 v more (from v b.0)) | inr same ↦ same ]
    ]

-- where the nodes are as is asked, none is out of place
pub none_out : (g : Digraph) (c : Certified) (bounds : List ℕ) (loads : List (Option ℕ)) (fs : List PricedFact) → AreInPlace g c bounds loads fs → (u : ℕ) → IsOutOfPlace g c bounds loads fs u → ⊥
none_out g c bounds loads fs fine u (misplaced x) = fine.placed u x
none_out g c bounds loads fs fine u (heads_unheld y) = y.unheld (fine.held y.fact u y.among y.header)
none_out g c bounds loads fs fine u (exceeds_value entry x) =
    let P : Option ℕ → Type 0 = λ o. IfSome o (λ n. n < 2 ^ 64) in
    let small : x.value < 2 ^ 64 = subst P x.is fine.small in
    let large = x.exceeds in
    omega arith

-- ---- a section

module _ (P : Program) (t : Timing) (bound_of : BoundOf) (q : Pricing) (earlier : List Valued) (s : PricedSection) where
  abbrev Seen : Type 0
  Seen = SectionView P t earlier s.plain

  abbrev bounds : List ℕ
  bounds = section_bounds bound_of s.plain

  abbrev own : List PricedFact
  own = own_facts q.facts s

  misplaced_too : (h k : Seen) (fees : List (Option ℕ)) (u : ℕ) → IsMisplaced h.graph s.plain.section bounds fees u → IsMisplaced k.graph s.plain.section bounds fees u
  misplaced_too h k fees u (lists_no_node listed past) = lists_no_node listed (let same = same_size P t earlier s.plain h k in omega arith)
  misplaced_too h k fees u (holds_no_node held past) = holds_no_node held (let same = same_size P t earlier s.plain h k in omega arith)
  misplaced_too h k fees u (heads_faulty heads) = heads_faulty heads
  misplaced_too h k fees u (enters_aside v e enters) = enters_aside v (edges_too P t earlier s.plain h k u v e) enters
  misplaced_too h k fees u (holds_entry zero' holds) = holds_entry zero' holds
  misplaced_too h k fees u (exceeds_limit zero' exceeds) = exceeds_limit zero' exceeds

  out_too : (h k : Seen) (fees : List (Option ℕ)) (u : ℕ) → IsOutOfPlace h.graph s.plain.section bounds fees own u → IsOutOfPlace k.graph s.plain.section bounds fees own u
  out_too h k fees u (misplaced m) = misplaced (misplaced_too h k fees u m)
  out_too h k fees u (heads_unheld heads) = heads_unheld heads
  out_too h k fees u (exceeds_value zero' exceeds) = exceeds_value zero' exceeds

  pub wrong_too : (h k : Seen) (u : ℕ) → IsWrongIn bound_of own s h u → IsWrongIn bound_of own s k u
  wrong_too h k u (inl out) = inl (subst (λ (fees : List (Option ℕ)). IsOutOfPlace k.graph s.plain.section bounds fees own u) (same_fees P t earlier s.plain h k) (out_too h k h.fees u out))
  wrong_too h k u (inr (inl no_node)) = inr (inl (record { said = no_node.said; none = λ n node. no_node.none n (node_too P t earlier s.plain k h node) }))
  wrong_too h k u (inr (inr lacks)) = inr (inr lacks)

  -- an edge pays in each view
  pub edge_pays_too : (h k : Seen) (u v : ℕ) → Edge h.graph u v → EdgePays h.costs (credit q s) s.plain.section (paying s.plain.section bounds h.fees own) u v
      → EdgePays k.costs (credit q s) s.plain.section (paying s.plain.section bounds k.fees own) u v
  edge_pays_too h k u v e pays =
      let r = (h.is_graph.edges u v).0 e in
      let at = same_cost P t earlier s.plain h k r.source r.reached in
      let cost : slice_index h.costs u ≡ slice_index k.costs u = ap (λ (n : ℕ). slice_index h.costs n) r.numbered.0 ∙ (at ∙ sym (ap (λ (n : ℕ). slice_index k.costs n) r.numbered.0)) in
      let K : ℕ → Type 0 = λ c. PaysFrom (headed_by v (paying s.plain.section bounds h.fees own)) c (credit q s u) u (potential s.plain.section.nodes u) (potential s.plain.section.nodes v) in
      let L : List (Option ℕ) → Type 0 = λ fees. PaysFrom (headed_by v (paying s.plain.section bounds fees own)) (slice_index k.costs u) (credit q s u) u (potential s.plain.section.nodes u) (potential s.plain.section.nodes v) in
      subst L (same_fees P t earlier s.plain h k) (subst K cost pays)

  pub exit_pays_too : (h k : Seen) (u : ℕ) → Contains h.graph.exits u → ExitPays h.costs (credit q s) s.plain.section u → ExitPays k.costs (credit q s) s.plain.section u
  exit_pays_too h k u e pays =
      let r = (h.is_graph.exits u).0 e in
      let at = same_cost P t earlier s.plain h k r.node r.reached in
      let cost : slice_index h.costs u ≡ slice_index k.costs u = ap (λ (n : ℕ). slice_index h.costs n) r.numbered ∙ (at ∙ sym (ap (λ (n : ℕ). slice_index k.costs n) r.numbered)) in
      subst (λ (c : ℕ). CoversWith c (credit q s u) (potential s.plain.section.nodes u)) cost pays

  -- ---- one fault after another

  pub one_target : (x y : ℕ) → FailsAtTarget P t earlier s.plain x → FailsAtTarget P t earlier s.plain y → x ≡ y
  one_target x y a b = one_least (IsLacking P s.plain.method a.view.told) (IsLacking P s.plain.method b.view.told) (lacks_too P t earlier s.plain a.view b.view) (lacks_too P t earlier s.plain b.view a.view) x y a.least b.least

  pub one_node : (u v : ℕ) → FailsInPlace P t bound_of q earlier s u → FailsInPlace P t bound_of q earlier s v → u ≡ v
  one_node u v a b = one_least (IsWrongIn bound_of own s a.view) (IsWrongIn bound_of own s b.view) (wrong_too a.view b.view) (wrong_too b.view a.view) u v a.least b.least

  pub one_edge : (u v x y : ℕ) → FailsAlongEdge P t bound_of q earlier s u v → FailsAlongEdge P t bound_of q earlier s x y → (u ≡ x) × (v ≡ y)
  one_edge u v x y a b =
      let here = edges_too P t earlier s.plain a.view b.view u v a.first.edge in
      let there = edges_too P t earlier s.plain b.view a.view x y b.first.edge in
      elim (ordered u v x y) [
        | inl before ↦ absurd (a.first.fails (edge_pays_too b.view a.view u v here (b.first.first u v here before)))
        | inr other ↦ elim other [ inl behind ↦ absurd (b.first.fails (edge_pays_too a.view b.view x y there (a.first.first x y there behind))) | inr same ↦ same ]
      ]

  pub one_exit : (u v : ℕ) → FailsOnExit P t bound_of q earlier s u → FailsOnExit P t bound_of q earlier s v → u ≡ v
  one_exit u v a b =
      let here = exits_too P t earlier s.plain a.view b.view u a.first.exit in
      let there = exits_too P t earlier s.plain b.view a.view v b.first.exit in
      elim (compared u v) [
        | inl less ↦ absurd (a.first.fails (exit_pays_too b.view a.view u here (b.first.first u here less)))
        | inr other ↦ elim other [ inl more ↦ absurd (b.first.fails (exit_pays_too a.view b.view v there (a.first.first v there more))) | inr same ↦ same ]
      ]
