-- Two views of a section behind the same sections agree, as far as the section's conditions speak of them.
use Rattle.std.proofs.Common.{◌≡◌, ◌≢◌, ℕ, suc, ◌*◌, ◌<◌, Bool, true, false, List, [], ◌∷◌, length, get_or, Contains, Option, Some, None, slice_index, refl, sym, ap, ap₂, ◌∙◌, subst, arith}
use Rattle.std.specs.Prelude.{slice_index_or, unwrap_or}
use Rattle.std.proofs.lemmas.List.{get_or_default}
use Rattle.loop_nest.specs.Digraph.{Edge}
use Rattle.section_check.specs.Section.{CertifiedLoop}
use Rattle.section_check.specs.Placing.{IsEntryAt}
use Rattle.certificates.specs.declared.cert.CertSection.{CertSection}
use Rattle.bytecode_model.specs.Program.{Program, body_of}
use Rattle.method_flow.specs.Nodes.{Node, At, RaiseAt, number_of}
use Rattle.method_flow.specs.Nodes.IsReached.{first, later}
use Rattle.method_flow.specs.Calls.{IsTarget, targets_of}
use Rattle.method_flow.specs.declared.timing.Timing.{Timing}
use Rattle.method_flow.specs.Regions.{load}
use Rattle.bound_rules.specs.Costs.{added, added_at}
use Rattle.bound_rules.specs.Told.{Valued, value_in, with_cycles, SaysFull, SaysCalled, is_without_loads, within_limit}
use Rattle.bound_rules.specs.Told.SaysFull.{fits as full_fits, exceeds as full_exceeds}
use Rattle.bound_rules.specs.Sections.{IsSectionEdge, IsSectionNode, IsEntryLoad, SectionView, IsLacking}
use Rattle.bound_rules.specs.Sections.IsEntryLoad.{no_region, fits, exceeds}
use Rattle.bound_rules.proofs.Sums.{same_loads}
use Rattle.bound_rules.proofs.Owning.{both_hold, same_own, same_of_each, target_calls}

-- ---- what is said

pub same_full : (P : Program) (t : Timing) (earlier : List Valued) (m : ℕ) (a b : Option (Option ℕ)) → SaysFull P t earlier m a → SaysFull P t earlier m b → a ≡ b
same_full P t earlier m a b (full_fits j is) (full_fits k is') = is ∙ (ap (λ (n : ℕ). with_cycles n (value_in true m earlier)) (same_loads j k) ∙ sym is')
same_full P t earlier m a b (full_fits j is) (full_exceeds alone is') = absurd (alone j)
same_full P t earlier m a b (full_exceeds alone is) (full_fits k is') = absurd (alone k)
same_full P t earlier m a b (full_exceeds alone is) (full_exceeds alone' is') = is ∙ sym is'

same_called : (P : Program) (t : Timing) (earlier : List Valued) (without_loads : Bool) (m x : ℕ) (a b : Option (Option ℕ)) → SaysCalled P t earlier without_loads m x a → SaysCalled P t earlier without_loads m x b → a ≡ b
same_called P t earlier true m x a b is is' = is ∙ sym is'
same_called P t earlier false m x a b (j, says, is) (k, says', is') = is ∙ (ap (λ (o : Option (Option ℕ)). with_cycles (load P t.read m) o) (same_full P t earlier x j k says says') ∙ sym is')

-- ---- fees

same_fee : (P : Program) (t : Timing) (m : ℕ) (l : CertifiedLoop) (a b : Option ℕ) → IsEntryLoad P t m l a → IsEntryLoad P t m l b → a ≡ b
same_fee P t m l a b (no_region plain is) (no_region plain' is') = is ∙ sym is'
same_fee P t m l a b (no_region plain is) (fits region k is') = absurd (let bad : false ≡ true = sym plain ∙ region in cc)
same_fee P t m l a b (no_region plain is) (exceeds region alone is') = absurd (let bad : false ≡ true = sym plain ∙ region in cc)
same_fee P t m l a b (fits region j is) (no_region plain is') = absurd (let bad : false ≡ true = sym plain ∙ region in cc)
same_fee P t m l a b (fits region j is) (fits region' k is') = is ∙ (ap (λ (n : ℕ). Some n) (same_loads j k) ∙ sym is')
same_fee P t m l a b (fits region j is) (exceeds region' alone is') = absurd (alone j)
same_fee P t m l a b (exceeds region alone is) (no_region plain is') = absurd (let bad : false ≡ true = sym plain ∙ region in cc)
same_fee P t m l a b (exceeds region alone is) (fits region' k is') = absurd (alone k)
same_fee P t m l a b (exceeds region alone is) (exceeds region' alone' is') = is ∙ sym is'

pub same_lists : {X : Type 0} (d : X) (xs ys : List X) → length xs ≡ length ys → ((i : ℕ) → i < length xs → get_or xs i d ≡ get_or ys i d) → xs ≡ ys
same_lists d [] [] long each = refl
same_lists d [] (y ∷ ys) long each = absurd (omega arith)
same_lists d (x ∷ xs) [] long each = absurd (omega arith)
same_lists {X} d (x ∷ xs) (y ∷ ys) long each = ap₂ (λ (a : X) (rest : List X). a ∷ rest) (each 0 (omega arith)) (same_lists d xs ys (omega arith) (λ i below. each (suc i) (omega arith)))

some_loop : CertifiedLoop
some_loop = record { header = 0; iteration_cost = 0; members = []; region = false }

-- ---- one way

module _ (P : Program) (t : Timing) (earlier : List Valued) (s : CertSection) (h k : SectionView P t earlier s) where
  pub same_fees : h.fees ≡ k.fees
  same_fees =
      let long = h.are_fees.long in
      same_lists None h.fees k.fees (h.are_fees.long ∙ sym k.are_fees.long) (λ i below. let l = get_or s.section.loops i some_loop in
      let at : IsEntryAt s.section.loops i l = (omega arith, get_or_default s.section.loops i l some_loop (omega arith)) in
      same_fee P t s.method l (slice_index_or h.fees i None) (slice_index_or k.fees i None) (h.are_fees.each i l at) (k.are_fees.each i l at))

  pub same_told : (p x : ℕ) → IsSectionNode P s.method h.told (At p) → IsSectionNode P s.method k.told (At p) → IsTarget P s.method p x → h.told p x ≡ k.told p x
  same_told p x here there target =
      let call = target_calls P s.method p x target in
      let a = h.are_told p x here call target in
      let b = k.are_told p x there call target in
      let own = same_own P t s.method (At p) a.own b.own a.is_own b.is_own in
      let said = same_called P t earlier (is_without_loads s p) s.method x a.said b.said a.says b.says in
      a.is ∙ (ap₂ (λ (n : ℕ) (o : Option (Option ℕ)). within_limit n o) own said ∙ sym b.is)

  edge_too : (u v : Node) → IsSectionNode P s.method h.told u → IsSectionNode P s.method k.told u → IsSectionEdge P s.method h.told u v → IsSectionEdge P s.method k.told u v
  edge_too u v here there e = record { edge = e.edge; goes_on = λ p q is_u is_v call. by p q is_u (e.goes_on p q is_u is_v call) }
    where
      by : (p q : ℕ) → u ≡ At p → (x : ℕ) × IsTarget P s.method p x × (h.told p x ≢ Some None) → (x : ℕ) × IsTarget P s.method p x × (k.told p x ≢ Some None)
      by p q is_u (x, target, goes) =
          let here' : IsSectionNode P s.method h.told (At p) = subst (λ (w : Node). IsSectionNode P s.method h.told w) is_u here in
          let there' : IsSectionNode P s.method k.told (At p) = subst (λ (w : Node). IsSectionNode P s.method k.told w) is_u there in
          (x, target, λ none. goes (same_told p x here' there' target ∙ none))

  pub node_too : {u : Node} → IsSectionNode P s.method h.told u → IsSectionNode P s.method k.told u
  node_too first = first
  node_too (later {u} {v} more e) = let there = node_too more in later there (edge_too u v more there e)

  pub edges_too : (u v : ℕ) → Edge h.graph u v → Edge k.graph u v
  edges_too u v e =
      let r = (h.is_graph.edges u v).0 e in
      let there = node_too r.reached in
      (k.is_graph.edges u v).1 (record { source = r.source; target = r.target; reached = there; edge = edge_too r.source r.target r.reached there r.edge; numbered = r.numbered })

  pub exits_too : (u : ℕ) → Contains h.graph.exits u → Contains k.graph.exits u
  exits_too u e =
      let r = (h.is_graph.exits u).0 e in
      (k.is_graph.exits u).1 (record { node = r.node; reached = node_too r.reached; exit = r.exit; numbered = r.numbered })

  pub same_size : h.graph.nodes ≡ k.graph.nodes
  same_size = let b = both_hold (body_of P s.method) (λ c. h.graph.nodes ≡ 2 * length c.code) (λ c. k.graph.nodes ≡ 2 * length c.code) h.is_graph.size k.is_graph.size in b.2 ∙ sym b.3

  -- ---- costs

  same_added : (u : Node) → IsSectionNode P s.method h.told u → added_at (λ p. added P s.method p (λ x. unwrap_or (h.told p x) None)) u ≡ added_at (λ p. added P s.method p (λ x. unwrap_or (k.told p x) None)) u
  same_added (RaiseAt p) here = refl
  same_added (At p) here =
      ap (λ (o : Option ℕ). unwrap_or o 0)
      (same_of_each (λ x. unwrap_or (h.told p x) None) (λ x. unwrap_or (k.told p x) None) (targets_of P s.method p)
      (λ x target. ap (λ (o : Option (Option ℕ)). unwrap_or o None) (same_told p x here (node_too here) target)))

  pub same_cost : (u : Node) → IsSectionNode P s.method h.told u → slice_index h.costs (number_of u) ≡ slice_index k.costs (number_of u)
  same_cost u here =
      let a = h.are_costs.each u here in
      let b = k.are_costs.each u (node_too here) in
      let own = same_own P t s.method u a.0 b.0 a.1 b.1 in
      let more = same_added u here in
      let e : slice_index h.costs (number_of u) ≡ slice_index k.costs (number_of u) = omega (arith, a.2, b.2, own, more) in
      e

  pub lacks_too : (x : ℕ) → IsLacking P s.method h.told x → IsLacking P s.method k.told x
  lacks_too x lacks =
      let there = node_too lacks.reached in
      record { place = lacks.place; reached = there; call = lacks.call; target = lacks.target; absent = sym (same_told lacks.place x lacks.reached there lacks.target) ∙ lacks.absent }
