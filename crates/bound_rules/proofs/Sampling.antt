-- Worked examples with regions, of certificates and of refusals of bounds.
use Rattle.std.proofs.Common.{◌≡◌, ◌≢◌, ◌⊎◌, ℕ, zero, suc, ◌+◌, ◌*◌, ◌<◌, ◌≤◌, true, false, List, [], ◌∷◌, Contains, Option, Some, None, pos, ◌+ℤ◌, ◌≤ℤ◌, ◌<ℤ◌, ℤ, refl, sym, ap, ◌∙◌, subst, inl, inr, arith}
use Rattle.std.specs.Prelude.{unwrap_or, slice_index_or}
use Rattle.std.specs.Int.{int_wrap}
use Rattle.std.specs.Int.Signed.{≤ℤ_refl}
use Rattle.std.proofs.lemmas.Int.{ints}
use Rattle.opcodes.specs.Instruction.{decoded}
use Rattle.opcodes.specs.Row as opcodes
use Rattle.opcodes.specs.Start.{starts_of}
use Rattle.bytecode_model.specs.Table.{row_of}
use Rattle.lists.specs.Members.{at_head, in_tail, cons_cases, nil_contains}
use Rattle.section_check.specs.Section.{CertifiedLoop, PricedLoop}
use Rattle.section_check.specs.Placing.{IsEntryAt, IsInLoop, IsFaulty, IsMisplaced, ExceedsLimit, LiesIn}
use Rattle.section_check.specs.Placing.IsFaulty.{shares_header, leaves_header_out, crosses_another, does_not_fit, lies_in_region}
use Rattle.section_check.specs.Placing.IsMisplaced.{lists_no_node, holds_no_node, heads_faulty, enters_aside, holds_entry, exceeds_limit}
use Rattle.section_check.specs.Conditions.{EdgeHolds, ExitHolds, natural}
use Rattle.certificates.specs.declared.lines.line.SectionKind.TheVariants.{Loops}
use Rattle.method_flow.specs.Nodes.{Node, At, RaiseAt, number_of}
use Rattle.method_flow.specs.Nodes.IsReached.{first, later}
use Rattle.method_flow.specs.Calls.{IsCall, IsStartOf, IsTarget}
use Rattle.method_flow.specs.Keeping.{BoundOf}
use Rattle.method_flow.specs.Regions.{IsWithin, IsWithinNodes}
use Rattle.method_flow.specs.Regions.IsWithin.{itself, calls}
use Rattle.method_flow.specs.Regions.IsWithinNodes.{itself as nodes_itself, calls as nodes_calls}
use Rattle.method_flow.specs.Costs.{IsOwnCost}
use Rattle.method_flow.specs.Examples.{sample}
use Rattle.bound_rules.specs.declared.faults.CheckFault.TheVariants as faults
use Rattle.bound_rules.specs.Fitting.{RegionFits, LoopFits, header_bound}
use Rattle.bound_rules.specs.Sections.{IsSectionNode, AreEntryLoads, IsEntryLoad, SectionView, MeetsSection}
use Rattle.bound_rules.specs.Sections.IsEntryLoad.{fits as fee_fits}
use Rattle.bound_rules.specs.Told.{most_cycles}
use Rattle.bound_rules.specs.Refused.{NoneIsWrong, SectionFails}
use Rattle.bound_rules.specs.Examples.{timing, one_value, region_section, RegionSections}
use Rattle.bound_rules.proofs.Graphing.{target_is_loop, invoke_target, raise_edge, never_graph}
use Rattle.bound_rules.proofs.Examples.{never_listed, never_list, never_costs, never_edge, never_exit, told_values, some_none}

false_is : false ≡ true → ⊥
false_is e = absurd (cc)

-- ---- what may run

one_start : (p : ℕ) → Contains (0 ∷ []) p → p ≡ 0
one_start p c = elim (cons_cases 0 p [] c) [ inl same ↦ sym same | inr there ↦ absurd (nil_contains p there) ]

pub no_call_in_return : (p : ℕ) → IsStartOf sample 1 p → IsCall sample 1 p → ⊥
unfolding decoded opcodes.row_of row_of int_wrap starts_of
no_call_in_return p start call = false_is (subst (λ (x : ℕ). IsCall sample 1 x) (one_start p start) call)

pub no_call_in_loop : (p : ℕ) → IsStartOf sample 2 p → IsCall sample 2 p → ⊥
unfolding decoded opcodes.row_of row_of int_wrap starts_of
no_call_in_loop p start call = false_is (subst (λ (x : ℕ). IsCall sample 2 x) (one_start p start) call)

pub alone : (m : ℕ) → ((p : ℕ) → IsStartOf sample m p → IsCall sample m p → ⊥) → {x : ℕ} → IsWithin sample m x → x ≡ m
alone m none itself = refl
alone m none (calls p start call target more) = absurd (none p start call)

pub invoke_start : IsStartOf sample 3 0 × IsCall sample 3 0
unfolding decoded opcodes.row_of row_of int_wrap starts_of
invoke_start = (at_head 0 (3 ∷ []), refl)

pub only_one : (x : ℕ) → Contains (1 ∷ []) x → 1 ≡ x
only_one x has = elim (cons_cases 1 x [] has) [ inl same ↦ same | inr none ↦ absurd (nil_contains x none) ]

-- method 1 by itself
abbrev pub return_fits : RegionFits sample timing 1
return_fits = record {
  methods = 1 ∷ [];
  are = record { distinct = λ i j d less below. absurd (omega arith); each = λ x. (λ has. subst (λ (y : ℕ). IsWithin sample 1 y) (only_one x has) itself, λ within. subst (λ (y : ℕ). Contains (1 ∷ []) y) (sym (alone 1 no_call_in_return within)) (at_head 1 [])) };
  fit = omega arith;
}

-- methods 3 and 2, which may run while control is at the invoke or its raise step
region_fits : LoopFits sample timing 3 (0 ∷ 1 ∷ [])
region_fits = record { methods = 3 ∷ 2 ∷ []; are = record { distinct = distinct; each = λ x. (to x, from x) }; fit = omega arith }
  where
    distinct : (i j d : ℕ) → i < j → j < 2 → slice_index_or (3 ∷ 2 ∷ []) i d ≢ slice_index_or (3 ∷ 2 ∷ []) j d
    distinct zero zero d less below e = absurd (omega arith)
    distinct zero (suc zero) d less below e = let bad : ⊥ = omega arith in bad
    distinct zero (suc (suc j)) d less below e = absurd (omega arith)
    distinct (suc i) j d less below e = absurd (omega arith)

    to : (x : ℕ) → Contains (3 ∷ 2 ∷ []) x → IsWithinNodes sample 3 (0 ∷ 1 ∷ []) x
    to x has =
        elim (cons_cases 3 x (2 ∷ []) has) [
          | inl same ↦ nodes_itself (sym same)
          | inr more ↦
              elim (cons_cases 2 x [] more) [
                | inl same ↦ subst (λ (y : ℕ). IsWithinNodes sample 3 (0 ∷ 1 ∷ []) y) same (nodes_calls 0 2 (at_head 0 (1 ∷ [])) invoke_start.0 invoke_start.1 invoke_target itself)
                | inr none ↦ absurd (nil_contains x none)
              ]
        ]

    zero_of : (p : ℕ) → Contains (0 ∷ 1 ∷ []) (2 * p) → p ≡ 0
    zero_of p has =
        elim (cons_cases 0 (2 * p) (1 ∷ []) has) [
          | inl same ↦ omega arith
          | inr more ↦ elim (cons_cases 1 (2 * p) [] more) [ inl same ↦ absurd (omega arith) | inr none ↦ absurd (nil_contains (2 * p) none) ]
        ]

    from : (x : ℕ) → IsWithinNodes sample 3 (0 ∷ 1 ∷ []) x → Contains (3 ∷ 2 ∷ []) x
    from x (nodes_itself is) = subst (λ (y : ℕ). Contains (3 ∷ 2 ∷ []) y) (sym is) (at_head 3 (2 ∷ []))
    from x (nodes_calls p t has start call target within) =
        let same : t ≡ 2 = target_is_loop t (subst (λ (q : ℕ). IsTarget sample 3 q t) (zero_of p has) target) in
        let is : x ≡ 2 = alone 2 no_call_in_loop (subst (λ (y : ℕ). IsWithin sample y x) same within) in
        subst (λ (y : ℕ). Contains (3 ∷ 2 ∷ []) y) (sym is) (in_tail 3 2 (2 ∷ []) (at_head 2 []))

-- ---- a region

module _ (bound_of : BoundOf) (c r k : ℕ) (own_call : IsOwnCost sample timing 3 (At 0) c) (own_raise : IsOwnCost sample timing 3 (RaiseAt 0) r) where
  abbrev region : CertifiedLoop
  region = record { header = 0; iteration_cost = k; members = 0 ∷ 1 ∷ []; region = true }

  region_fees : AreEntryLoads sample timing (region_section c r k) (Some 14 ∷ [])
  unfolding region_fits
  region_fees = record { long = refl; each = each }
    where
      each : (i : ℕ) (l : CertifiedLoop) → IsEntryAt (region ∷ []) i l → IsEntryLoad sample timing 3 l (slice_index_or (Some 14 ∷ []) i None)
      each zero l at = subst (λ (x : CertifiedLoop). IsEntryLoad sample timing 3 x (Some 14)) at.1 (fee_fits refl region_fits refl)
      each (suc i) l at = absurd (let below = at.0 in omega arith)

  abbrev region_view : SectionView sample timing (one_value None) (region_section c r k)
  region_view = record {
    coded = refl;
    told = λ p x. Some None;
    are_told = told_values timing bound_of c r own_call own_raise (one_value None) Loops (region_section c r k).section (Some None) refl refl;
    graph = never_listed timing bound_of c r own_call own_raise;
    is_graph = never_graph (λ p x. Some None) refl;
    costs = never_list timing bound_of c r own_call own_raise;
    are_costs = never_costs timing bound_of c r own_call own_raise;
    fees = Some 14 ∷ [];
    are_fees = region_fees;
  }

  is_region : (l : CertifiedLoop) → Contains (region ∷ []) l → region ≡ l
  is_region l has = elim (cons_cases region l [] has) [ inl same ↦ same | inr none ↦ absurd (nil_contains l none) ]

  at_region : (i : ℕ) (l : CertifiedLoop) → IsEntryAt (region ∷ []) i l → region ≡ l
  at_region i l at = is_region l (i, at.0, at.1)

  two_members : (u : ℕ) → Contains (0 ∷ 1 ∷ []) u → (u ≡ 0) ⊎ (u ≡ 1)
  two_members u has =
      elim (cons_cases 0 u (1 ∷ []) has) [
        | inl same ↦ inl (sym same)
        | inr more ↦ elim (cons_cases 1 u [] more) [ inl same ↦ inr (sym same) | inr none ↦ absurd (nil_contains u none) ]
      ]

  held : (u : ℕ) → IsInLoop (region ∷ []) u → (u ≡ 0) ⊎ (u ≡ 1)
  held u h = two_members u (subst (λ (l : CertifiedLoop). Contains l.members u) (sym (is_region h.holder h.among)) h.inside)

  below : (u : ℕ) → (u ≡ 0) ⊎ (u ≡ 1) → 8 ≤ u → ⊥
  below u (inl e) past = let bad : ⊥ = omega arith in bad
  below u (inr e) past = let bad : ⊥ = omega arith in bad

  node : (u : ℕ) → (u ≡ 0) ⊎ (u ≡ 1) → (n : Node) × IsSectionNode sample 3 (λ p x. Some None) n × (number_of n ≡ u)
  node u (inl e) = (At 0, first, sym e)
  node u (inr e) = (RaiseAt 0, later first (raise_edge (λ p x. Some None)), sym e)

  -- nothing is wrong with the region itself
  faultless : (i : ℕ) (l : CertifiedLoop) → IsEntryAt (region ∷ []) i l → IsFaulty (region ∷ []) (Some 14 ∷ []) i l → ⊥
  faultless i l at (shares_header s) = let lt = at.0 in let lt' = s.at.0 in s.apart (omega arith)
  faultless i l at (leaves_header_out out) = out (subst (λ (x : CertifiedLoop). Contains x.members x.header) (at_region i l at) (at_head 0 (1 ∷ [])))
  faultless i l at (crosses_another other) =
      other.crossed.not_in (subst (λ (x : CertifiedLoop). LiesIn x other.other) (at_region i l at) (subst (λ (x : CertifiedLoop). LiesIn region x) (is_region other.other other.among) (λ x has. has)))
  faultless zero l at (does_not_fit marked none) = let is : ◌≡◌ {A = Option ℕ} (Some 14) None = none.1 in cc
  faultless (suc i) l at (does_not_fit marked none) = let lt = at.0 in omega arith
  faultless i l at (lies_in_region marked lies) = let lt = at.0 in let lt' = lies.at.0 in lies.apart (omega arith)

  module _ (bounds : List ℕ) (fits : ExceedsLimit (region_section c r k).section bounds (Some 14 ∷ []) → ⊥) where
    misplaced : (u : ℕ) → IsMisplaced (never_listed timing bound_of c r own_call own_raise) (region_section c r k).section bounds (Some 14 ∷ []) u → ⊥
    misplaced u (lists_no_node has past) = below u (two_members u has) past
    misplaced u (holds_no_node h past) = below u (held u h) past
    misplaced u (heads_faulty h) = faultless h.place h.headed h.at h.faulty
    misplaced u (enters_aside v e enters) =
        let at = never_edge timing bound_of c r own_call own_raise u v e in
        enters.outside (subst (λ (l : CertifiedLoop). Contains l.members u) (is_region enters.entered enters.among) (subst (λ (x : ℕ). Contains (0 ∷ 1 ∷ []) x) at.0 (at_head 0 (1 ∷ []))))
    misplaced u (holds_entry zero' h) = h.header (subst (λ (l : CertifiedLoop). l.header ≡ 0) (is_region h.holder h.among) refl)
    misplaced u (exceeds_limit zero' exceeds) = fits exceeds

  -- with a bound
  module _ (bound : ℕ) (given : bound_of 3 0 ≡ Some bound) (small : c + r + (bound * k + 14) ≤ most_cycles) where
    start : Option ℕ → Option ℤ
    start o = Some (pos (c + r) +ℤ pos (unwrap_or o 0 * k + 14))

    start_small : ExceedsLimit (region_section c r k).section (unwrap_or (bound_of 3 0) 0 ∷ []) (Some 14 ∷ []) → ⊥
    unfolding start
    start_small exceeds = by exceeds.value (ap start (sym given) ∙ exceeds.is) exceeds.exceeds
      where
        by : (z : ℤ) → ◌≡◌ {A = Option ℤ} (Some (pos (c + r) +ℤ pos (bound * k + 14))) (Some z) → pos most_cycles <ℤ z → ⊥
        by z is exceeds' = let same : pos (c + r) +ℤ pos (bound * k + 14) ≡ z = cc in let bad : ⊥ = omega (arith, ints) in bad

    placed : NoneIsWrong bound_of region_view
    placed u (inl m) = misplaced (unwrap_or (bound_of 3 0) 0 ∷ []) start_small u m
    placed u (inr (inl wrong)) = by wrong.said
      where
        by : Contains (0 ∷ 1 ∷ []) u ⊎ IsInLoop (region ∷ []) u → ⊥
        by (inl has) = let n = node u (two_members u has) in wrong.none n.0 n.1 n.2
        by (inr h) = let n = node u (held u h) in wrong.none n.0 n.1 n.2
    placed u (inr (inr lacks)) =
        let zero' : 0 ≡ u = ap (λ (l : CertifiedLoop). l.header) (is_region lacks.headed lacks.among) ∙ lacks.header in
        let none : bound_of 3 0 ≡ None = subst (λ (x : ℕ). header_bound bound_of 3 x ≡ None) (sym zero') lacks.none in
        let bad : ◌≡◌ {A = Option ℕ} (Some bound) None = sym given ∙ none in
        cc

    value_is : ◌≡◌ {A = Option ℕ} (Some (c + r + (bound * k + 14))) (natural (pos (c + r) +ℤ pos (unwrap_or (bound_of 3 0) 0 * k + 14)))
    value_is =
        let same : pos (c + r) +ℤ pos (bound * k + 14) ≡ pos (c + r + (bound * k + 14)) = omega (arith, ints) in
        ap (λ (z : ℤ). natural z) (sym same) ∙ ap (λ (o : Option ℕ). natural (pos (c + r) +ℤ pos (unwrap_or o 0 * k + 14))) (sym given)

    region_meets : MeetsSection sample timing bound_of (one_value None) (region_section c r k) (Some (c + r + (bound * k + 14)))
    region_meets = record {
      view = region_view;
      present = λ x lacks. some_none timing bound_of c r own_call own_raise lacks.absent;
      nodes = λ u wrong. placed u (inr (inl wrong));
      bounded = λ u lacks. placed u (inr (inr lacks));
      accepted = record { placed = λ u m. placed u (inl m); edges = edges; exits = exits };
      is = value_is;
    }
      where
        along : (pos c +ℤ pos r) ≤ℤ pos (c + r)
        along = omega (arith, ints)

        loops : List PricedLoop
        loops = record { certified = region; bound = unwrap_or (bound_of 3 0) 0; load = Some 14 } ∷ []

        edges : (u v : ℕ) → Contains {X = ℕ × ℕ} ((0, 1) ∷ []) (u, v) → EdgeHolds (never_list timing bound_of c r own_call own_raise) (region_section c r k).section loops u v
        edges u v e =
            let at = never_edge timing bound_of c r own_call own_raise u v e in
            subst (λ (x : ℕ). EdgeHolds (never_list timing bound_of c r own_call own_raise) (region_section c r k).section loops x v) at.0
            (subst (λ (y : ℕ). EdgeHolds (never_list timing bound_of c r own_call own_raise) (region_section c r k).section loops 0 y) at.1 along)

        exits : (u : ℕ) → Contains (1 ∷ []) u → ExitHolds (never_list timing bound_of c r own_call own_raise) (region_section c r k).section u
        exits u e =
            subst (λ (x : ℕ). ExitHolds (never_list timing bound_of c r own_call own_raise) (region_section c r k).section x) (never_exit timing bound_of c r own_call own_raise u e) (≤ℤ_refl (pos r))

  region_unbounded : bound_of 3 0 ≡ None → SectionFails sample timing bound_of (one_value None) (region_section c r k) (faults.Member 3 0)
  region_unbounded none = (
    refl,
    record {
      view = region_view;
      present = λ x lacks. some_none timing bound_of c r own_call own_raise lacks.absent;
      least = (inr (inr (record { headed = region; among = at_head region []; header = refl; none = none })), λ u less wrong. absurd (omega arith));
    },
  )

pub region_sections : RegionSections
region_sections bound_of c r k own_call own_raise small = record {
  meets = λ bound given fits. region_meets bound_of c r k own_call own_raise bound given fits;
  unbounded = region_unbounded bound_of c r k own_call own_raise;
}
