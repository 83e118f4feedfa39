-- The worked examples.
use Rattle.std.proofs.Common.{◌≡◌, ◌≢◌, ◌⊎◌, ℕ, ◌+◌, ◌<◌, ◌≤◌, Bool, true, List, [], ◌∷◌, Contains, Option, Some, None, pos, ◌+ℤ◌, ◌≤ℤ◌, ◌<ℤ◌, ℤ, refl, sym, ap, ◌∙◌, subst, inl, inr, arith, slice_index}
use Rattle.std.specs.Prelude.{unwrap_or, if◌then◌else◌}
use Rattle.std.specs.Int.{int_wrap}
use Rattle.std.specs.Int.Signed.{≤ℤ_refl}
use Rattle.std.proofs.lemmas.Bool.Decides.{leb_tells}
use Rattle.std.proofs.lemmas.Int.{ints}
use Rattle.opcodes.specs.Instruction.{decoded}
use Rattle.opcodes.specs.Row as opcodes
use Rattle.bytecode_model.specs.Table.{row_of}
use Rattle.lists.specs.Members.{at_head, in_tail, cons_cases, nil_contains}
use Rattle.loop_nest.specs.Digraph.{Digraph, IsBefore}
use Rattle.section_check.specs.Section.{Certified, listed, potential, with_fee}
use Rattle.section_check.specs.Placing.{IsInLoop, IsMisplaced, ExceedsLimit}
use Rattle.section_check.specs.Placing.IsMisplaced.{lists_no_node, holds_no_node, heads_faulty, enters_aside, holds_entry, exceeds_limit}
use Rattle.section_check.specs.Conditions.{EdgeHolds, ExitHolds, natural}
use Rattle.certificates.specs.declared.lines.line.SectionKind.{SectionKind}
use Rattle.certificates.specs.declared.lines.line.SectionKind.TheVariants.{Inside}
use Rattle.method_flow.specs.Nodes.{Node, At, RaiseAt, number_of}
use Rattle.method_flow.specs.Nodes.IsReached.{first, later}
use Rattle.method_flow.specs.Calls.{IsTarget}
use Rattle.method_flow.specs.Keeping.{BoundOf}
use Rattle.method_flow.specs.declared.timing.Timing.{Timing}
use Rattle.method_flow.specs.Costs.{IsOwnCost}
use Rattle.method_flow.specs.Examples.{sample}
use Rattle.bound_rules.specs.declared.faults.CheckFault.TheVariants as faults
use Rattle.bound_rules.specs.Costs.{AreCosts, greater, added, added_at}
use Rattle.bound_rules.specs.Told.{Valued, TargetValues, IsTargetValue, SaysCalled, value_in, within_limit, is_without_loads, most_cycles}
use Rattle.bound_rules.specs.Sections.{IsSectionEdge, IsSectionNode, AreTargetValues, AreEntryLoads, SectionView, IsLacking, MeetsSection}
use Rattle.bound_rules.specs.Refused.{IsWrong, NoneLacks, NoneIsWrong, SectionFails}
use Rattle.bound_rules.specs.Examples.{Computed, inside_section, ReturnSection, ReturnSections, one_value, CallSection, CallSections}
use Rattle.bound_rules.proofs.Graphing.{listed_graph, only_return, return_graph, no_target_of_return, nodes_of_call, raise_edge, on_edge, going_graph, nodes_of_never, never_graph, target_is_loop, invoke_target, no_target_behind}

pub computed : Computed
computed = record {
  given = refl;
  raise_step = refl;
  not_given = refl;
  first_inside = refl;
  never = refl;
  other_kind = refl;
  absent = refl;
  more = refl;
  never_more = refl;
  fits = refl;
  too_large = refl;
  greatest = refl;
  none = refl;
}

-- ---- sections without loops

-- the same is told everywhere
abbrev always : Option (Option ℕ) → TargetValues
always o = λ p x. o

no_fees : (t : Timing) (m : ℕ) (nodes : List (ℕ × ℤ)) → AreEntryLoads sample t (inside_section m nodes) []
no_fees t m nodes = record { long = refl; each = λ i l at. absurd (let below = at.0 in omega arith) }

-- in a section without loops of which what is listed are nodes, and whose value keeps within 64 bits, nothing is misplaced
well_placed : (g : Digraph) (nodes : List (ℕ × ℤ)) → ((u : ℕ) → Contains (listed nodes) u → u < g.nodes) → (ExceedsLimit (record { nodes = nodes; loops = [] }) [] [] → ⊥)
    → (u : ℕ) → IsMisplaced g (record { nodes = nodes; loops = [] }) [] [] u → ⊥
well_placed g nodes within fits u (lists_no_node has past) = let below = within u has in omega arith
well_placed g nodes within fits u (holds_no_node held past) = nil_contains held.holder held.among
well_placed g nodes within fits u (heads_faulty h) = let below = h.at.0 in omega arith
well_placed g nodes within fits u (enters_aside v e enters) = nil_contains enters.entered enters.among
well_placed g nodes within fits u (holds_entry zero' holds) = nil_contains holds.holder holds.among
well_placed g nodes within fits u (exceeds_limit zero' exceeds) = fits exceeds

-- a start that costs at most what a certificate can hold
small_value : (nodes : List (ℕ × ℤ)) (n : ℕ) → potential nodes 0 ≡ Some (pos n) → n ≤ most_cycles → ExceedsLimit (record { nodes = nodes; loops = [] }) [] [] → ⊥
small_value nodes n value small exceeds = by exceeds.value (ap (λ (o : Option ℤ). with_fee o 0) (sym value) ∙ exceeds.is) exceeds.exceeds
  where
    by : (z : ℤ) → ◌≡◌ {A = Option ℤ} (Some (pos n +ℤ pos 0)) (Some z) → pos most_cycles <ℤ z → ⊥
    by z is exceeds' = let same : pos n +ℤ pos 0 ≡ z = cc in let bad : ⊥ = omega (arith, ints) in bad

no_value : ExceedsLimit (record { nodes = []; loops = [] }) [] [] → ⊥
no_value exceeds = let is : ◌≡◌ {A = Option ℤ} None (Some exceeds.value) = exceeds.is in cc

value_is : (n : ℕ) → ◌≡◌ {A = Option ℕ} (Some n) (natural (pos n +ℤ pos 0))
value_is n = let e : pos n +ℤ pos 0 ≡ pos n = omega (arith, ints) in ap (λ (z : ℤ). natural z) (sym e)

-- nothing is wrong with a section without loops of which what is listed are nodes
none_wrong : (t : Timing) (bound_of : BoundOf) (earlier : List Valued) (m : ℕ) (nodes : List (ℕ × ℤ)) (view : SectionView sample t earlier (inside_section m nodes)) → view.fees ≡ []
    → ((u : ℕ) → Contains (listed nodes) u → (n : Node) × IsSectionNode sample m view.told n × (number_of n ≡ u)) → ((u : ℕ) → Contains (listed nodes) u → u < view.graph.nodes)
    → (ExceedsLimit (record { nodes = nodes; loops = [] }) [] [] → ⊥) → NoneIsWrong bound_of view
none_wrong t bound_of earlier m nodes view none are_nodes within fits u (inl misplaced) =
    well_placed view.graph nodes within fits u (subst (λ (fees : List (Option ℕ)). IsMisplaced view.graph (record { nodes = nodes; loops = [] }) [] fees u) none misplaced)
none_wrong t bound_of earlier m nodes view none are_nodes within fits u (inr (inl wrong)) = by wrong.said
  where
    by : Contains (listed nodes) u ⊎ IsInLoop [] u → ⊥
    by (inl has) = let n = are_nodes u has in wrong.none n.0 n.1 n.2
    by (inr held) = nil_contains held.holder held.among
none_wrong t bound_of earlier m nodes view none are_nodes within fits u (inr (inr lacks)) = nil_contains lacks.headed lacks.among

-- ---- a return

module _ (t : Timing) (bound_of : BoundOf) (c : ℕ) (own : IsOwnCost sample t 1 (At 0) c) (small : c ≤ most_cycles) where
  return_costs : AreCosts sample t 1 (IsSectionEdge sample 1 (always None)) (λ p. added sample 1 p (λ x. unwrap_or (always None p x) None)) (listed_graph 2 [] (At 0 ∷ [])) (c ∷ 0 ∷ [])
  unfolding decoded opcodes.row_of row_of int_wrap
  return_costs = record { long = refl; each = λ u reached. subst K (sym (only_return (always None) reached)) (c, own, omega arith) }
    where
      K : Node → Type 0
      K u = (n : ℕ) × IsOwnCost sample t 1 u n × (slice_index (c ∷ 0 ∷ []) (number_of u) ≡ n + added_at (λ p. added sample 1 p (λ x. unwrap_or (always None p x) None)) u)

  no_target : (p x : ℕ) → IsSectionNode sample 1 (always None) (At p) → IsTarget sample 1 p x → ⊥
  no_target p x reached target = no_target_of_return x (subst (λ (q : ℕ). IsTarget sample 1 q x) (place (only_return (always None) reached)) target)
    where
      place : At p ≡ At 0 → p ≡ 0
      place e = cc

  abbrev return_view : (nodes : List (ℕ × ℤ)) → SectionView sample t [] (inside_section 1 nodes)
  return_view nodes = record {
    coded = refl;
    told = always None;
    are_told = λ p x reached call target. absurd (no_target p x reached target);
    graph = listed_graph 2 [] (At 0 ∷ []);
    is_graph = return_graph (always None);
    costs = c ∷ 0 ∷ [];
    are_costs = return_costs;
    fees = [];
    are_fees = no_fees t 1 nodes;
  }

  return_present : (nodes : List (ℕ × ℤ)) → NoneLacks (return_view nodes)
  return_present nodes x lacks = no_target lacks.place x lacks.reached lacks.target

  only_zero : (z : ℤ) (u : ℕ) → Contains (listed ((0, z) ∷ [])) u → u ≡ 0
  only_zero z u has = elim (cons_cases 0 u [] has) [ inl same ↦ sym same | inr none ↦ absurd (nil_contains u none) ]

  return_node : (u : ℕ) → u ≡ 0 → (n : Node) × IsSectionNode sample 1 (always None) n × (number_of n ≡ u)
  return_node u e = (At 0, first, sym e)

  return_placed : (n : ℕ) → n ≤ most_cycles → NoneIsWrong bound_of (return_view ((0, pos n) ∷ []))
  return_placed n le =
      none_wrong t bound_of [] 1 ((0, pos n) ∷ []) (return_view ((0, pos n) ∷ [])) refl (λ u has. return_node u (only_zero (pos n) u has)) (λ u has. let zero' = only_zero (pos n) u has in omega arith)
      (small_value ((0, pos n) ∷ []) n refl le)

  one_exit : (u : ℕ) → Contains (0 ∷ []) u → u ≡ 0
  one_exit u has = elim (cons_cases 0 u [] has) [ inl same ↦ sym same | inr none ↦ absurd (nil_contains u none) ]

  return_meets : MeetsSection sample t bound_of [] (inside_section 1 ((0, pos c) ∷ [])) (Some c)
  return_meets = record {
    view = return_view ((0, pos c) ∷ []);
    present = return_present ((0, pos c) ∷ []);
    nodes = λ u wrong. return_placed c small u (inr (inl wrong));
    bounded = λ u lacks. return_placed c small u (inr (inr lacks));
    accepted = record {
      placed = λ u misplaced. return_placed c small u (inl misplaced);
      edges = λ u v e. absurd (nil_contains {X = ℕ × ℕ} (u, v) e);
      exits = λ u e. subst (λ (x : ℕ). ExitHolds (c ∷ 0 ∷ []) (record { nodes = (0, pos c) ∷ []; loops = [] }) x) (sym (one_exit u e)) (≤ℤ_refl (pos c));
    };
    is = value_is c;
  }

  exit_fails : (nodes : List (ℕ × ℤ)) → NoneIsWrong bound_of (return_view nodes) → (ExitHolds (c ∷ 0 ∷ []) (record { nodes = nodes; loops = [] }) 0 → ⊥) → SectionFails sample t bound_of [] (inside_section 1 nodes) (faults.Exit 1 0)
  exit_fails nodes placed fails = (
    refl,
    record {
      view = return_view nodes;
      present = return_present nodes;
      placed = placed;
      edges = λ u v e. absurd (nil_contains {X = ℕ × ℕ} (u, v) e);
      first = record { exit = at_head 0 []; fails = fails; first = λ x e less. absurd (omega arith) };
    },
  )

  return_no_node : SectionFails sample t bound_of [] (inside_section 1 ((0, pos c) ∷ (1, pos c) ∷ [])) (faults.Member 1 1)
  return_no_node = (refl, record { view = return_view ((0, pos c) ∷ (1, pos c) ∷ []); present = return_present ((0, pos c) ∷ (1, pos c) ∷ []); least = (wrong, earlier_right) })
    where
      apart : (n : Node) → n ≡ At 0 → number_of n ≡ 1 → ⊥
      apart n at is = let e : number_of (At 0) ≡ 1 = ap number_of (sym at) ∙ is in let bad : ⊥ = omega arith in bad

      wrong : IsWrong bound_of (return_view ((0, pos c) ∷ (1, pos c) ∷ [])) 1
      wrong = inr (inl (record { said = inl (in_tail 0 1 (1 ∷ []) (at_head 1 [])); none = λ n reached is. apart n (only_return (always None) reached) is }))

      below_two : (u : ℕ) → Contains (0 ∷ 1 ∷ []) u → u < 2
      below_two u has =
          elim (cons_cases 0 u (1 ∷ []) has) [
            | inl same ↦ omega arith
            | inr more ↦ elim (cons_cases 1 u [] more) [ inl same ↦ omega arith | inr none ↦ absurd (nil_contains u none) ]
          ]

      at_zero : IsWrong bound_of (return_view ((0, pos c) ∷ (1, pos c) ∷ [])) 0 → ⊥
      at_zero (inl misplaced) = well_placed (listed_graph 2 [] (At 0 ∷ [])) ((0, pos c) ∷ (1, pos c) ∷ []) below_two (small_value ((0, pos c) ∷ (1, pos c) ∷ []) c refl small) 0 misplaced
      at_zero (inr (inl no_node)) = no_node.none (At 0) first refl
      at_zero (inr (inr lacks)) = nil_contains lacks.headed lacks.among

      earlier_right : (u : ℕ) → u < 1 → IsWrong bound_of (return_view ((0, pos c) ∷ (1, pos c) ∷ [])) u → ⊥
      earlier_right u less w = let e : u ≡ 0 = omega arith in at_zero (subst (λ (x : ℕ). IsWrong bound_of (return_view ((0, pos c) ∷ (1, pos c) ∷ [])) x) e w)

  return_section : ReturnSection t bound_of c
  return_section = record {
    meets = return_meets;
    unlisted = exit_fails [] (none_wrong t bound_of [] 1 [] (return_view []) refl (λ u has. absurd (nil_contains u has)) (λ u has. absurd (nil_contains u has)) no_value) (λ h. h);
    too_low = λ low less. exit_fails ((0, pos low) ∷ []) (return_placed low (omega arith)) (λ h. let bad : ⊥ = omega (arith, ints) in bad);
    no_node = return_no_node;
    no_code = inl (refl, refl);
  }

pub return_sections : ReturnSections
return_sections t bound_of c own small = return_section t bound_of c own small

-- ---- a call

within : (own n : ℕ) → own + n ≤ most_cycles → within_limit own (Some (Some n)) ≡ Some (Some n)
within own n le =
    elim (leb_tells (own + n) most_cycles) [
      | inl small ↦ ap (λ (b : Bool). if b then Some (Some n) else None) small.0
      | inr large ↦ absurd (let l = large.1 in omega arith)
    ]

module _ (t : Timing) (bound_of : BoundOf) (c r : ℕ) (own_call : IsOwnCost sample t 3 (At 0) c) (own_raise : IsOwnCost sample t 3 (RaiseAt 0) r) where
  -- the invoke is told the value of method 2 without loads
  pub told_values : (earlier : List Valued) (kind : SectionKind) (section : Certified) (o : Option (Option ℕ)) → is_without_loads (record { kind = kind; method = 3; section = section }) 0 ≡ true
      → o ≡ within_limit c (value_in true 2 earlier) → AreTargetValues sample t earlier (record { kind = kind; method = 3; section = section }) (always o)
  told_values earlier kind section o without is p x reached call target = by (nodes_of_call (always o) reached)
    where
      at_zero : At p ≡ At 0 → p ≡ 0
      at_zero e = cc

      at_three : At p ≡ At 3 → p ≡ 3
      at_three e = cc

      at_raise : At p ≡ RaiseAt 0 → ⊥
      at_raise e = absurd (cc)

      here : IsTargetValue sample t earlier (record { kind = kind; method = 3; section = section }) 0 2 o
      here = record {
        own = c;
        is_own = own_call;
        said = value_in true 2 earlier;
        says = subst (λ (b : Bool). SaysCalled sample t earlier b 3 2 (value_in true 2 earlier)) (sym without) refl;
        is = is;
      }

      by : (At p ≡ At 0) ⊎ ((At p ≡ At 3) ⊎ (At p ≡ RaiseAt 0)) → IsTargetValue sample t earlier (record { kind = kind; method = 3; section = section }) p x o
      by (inl e) =
          let same = target_is_loop x (subst (λ (q : ℕ). IsTarget sample 3 q x) (at_zero e) target) in
          subst (λ (q : ℕ). IsTargetValue sample t earlier (record { kind = kind; method = 3; section = section }) q x o) (sym (at_zero e))
          (subst (λ (y : ℕ). IsTargetValue sample t earlier (record { kind = kind; method = 3; section = section }) 0 y o) (sym same) here)
      by (inr (inl e)) = absurd (no_target_behind x (subst (λ (q : ℕ). IsTarget sample 3 q x) (at_three e) target))
      by (inr (inr e)) = absurd (at_raise e)

  -- ---- without a value

  abbrev pub never_told : TargetValues
  never_told = always (Some None)

  abbrev pub never_listed : Digraph
  never_listed = listed_graph 8 ((At 0, RaiseAt 0) ∷ []) (RaiseAt 0 ∷ [])

  abbrev pub never_list : List ℕ
  never_list = c ∷ r ∷ 0 ∷ 0 ∷ 0 ∷ 0 ∷ 0 ∷ 0 ∷ []

  pub never_costs : AreCosts sample t 3 (IsSectionEdge sample 3 never_told) (λ p. added sample 3 p (λ x. unwrap_or (never_told p x) None)) never_listed never_list
  unfolding decoded opcodes.row_of row_of int_wrap
  never_costs = record { long = refl; each = λ u reached. by u (nodes_of_never never_told refl reached) }
    where
      K : Node → Type 0
      K u = (n : ℕ) × IsOwnCost sample t 3 u n × (slice_index never_list (number_of u) ≡ n + added_at (λ p. added sample 3 p (λ x. unwrap_or (never_told p x) None)) u)

      by : (u : Node) → (u ≡ At 0) ⊎ (u ≡ RaiseAt 0) → K u
      by u (inl at) = subst K (sym at) (c, own_call, omega arith)
      by u (inr at) = subst K (sym at) (r, own_raise, omega arith)

  abbrev never_view : (nodes : List (ℕ × ℤ)) → SectionView sample t (one_value None) (inside_section 3 nodes)
  never_view nodes = record {
    coded = refl;
    told = never_told;
    are_told = told_values (one_value None) Inside (record { nodes = nodes; loops = [] }) (Some None) refl refl;
    graph = never_listed;
    is_graph = never_graph never_told refl;
    costs = never_list;
    are_costs = never_costs;
    fees = [];
    are_fees = no_fees t 3 nodes;
  }

  pub some_none : ◌≡◌ {A = Option (Option ℕ)} (Some None) None → ⊥
  some_none e = absurd (cc)

  two_listed : (z w : ℤ) (u : ℕ) → Contains (listed ((0, z) ∷ (1, w) ∷ [])) u → (u ≡ 0) ⊎ (u ≡ 1)
  two_listed z w u has =
      elim (cons_cases 0 u (1 ∷ []) has) [
        | inl same ↦ inl (sym same)
        | inr more ↦ elim (cons_cases 1 u [] more) [ inl same ↦ inr (sym same) | inr none ↦ absurd (nil_contains u none) ]
      ]

  never_node : (u : ℕ) → (u ≡ 0) ⊎ (u ≡ 1) → (n : Node) × IsSectionNode sample 3 never_told n × (number_of n ≡ u)
  never_node u (inl e) = (At 0, first, sym e)
  never_node u (inr e) = (RaiseAt 0, later first (raise_edge never_told), sym e)

  below_eight : (u : ℕ) → (u ≡ 0) ⊎ (u ≡ 1) → u < 8
  below_eight u (inl e) = omega arith
  below_eight u (inr e) = omega arith

  never_placed : (n : ℕ) → n ≤ most_cycles → NoneIsWrong bound_of (never_view ((0, pos n) ∷ (1, pos r) ∷ []))
  never_placed n le =
      none_wrong t bound_of (one_value None) 3 ((0, pos n) ∷ (1, pos r) ∷ []) (never_view ((0, pos n) ∷ (1, pos r) ∷ [])) refl (λ u has. never_node u (two_listed (pos n) (pos r) u has))
      (λ u has. below_eight u (two_listed (pos n) (pos r) u has)) (small_value ((0, pos n) ∷ (1, pos r) ∷ []) n refl le)

  pub never_edge : (u v : ℕ) → Contains {X = ℕ × ℕ} ((0, 1) ∷ []) (u, v) → (0 ≡ u) × (1 ≡ v)
  never_edge u v has =
      elim (cons_cases {X = ℕ × ℕ} (0, 1) (u, v) [] has) [
        | inl same ↦ (ap (λ (e : ℕ × ℕ). e.0) same, ap (λ (e : ℕ × ℕ). e.1) same)
        | inr none ↦ absurd (nil_contains {X = ℕ × ℕ} (u, v) none)
      ]

  pub never_exit : (u : ℕ) → Contains (1 ∷ []) u → 1 ≡ u
  never_exit u has = elim (cons_cases 1 u [] has) [ inl same ↦ same | inr none ↦ absurd (nil_contains u none) ]

  never_meets : c + r ≤ most_cycles → MeetsSection sample t bound_of (one_value None) (inside_section 3 ((0, pos (c + r)) ∷ (1, pos r) ∷ [])) (Some (c + r))
  never_meets small = record {
    view = never_view ((0, pos (c + r)) ∷ (1, pos r) ∷ []);
    present = λ x lacks. some_none lacks.absent;
    nodes = λ u wrong. never_placed (c + r) small u (inr (inl wrong));
    bounded = λ u lacks. never_placed (c + r) small u (inr (inr lacks));
    accepted = record {
      placed = λ u misplaced. never_placed (c + r) small u (inl misplaced);
      edges = λ u v e. let at = never_edge u v e in subst (λ (x : ℕ). EdgeHolds never_list section [] x v) at.0 (subst (λ (y : ℕ). EdgeHolds never_list section [] 0 y) at.1 along);
      exits = λ u e. subst (λ (x : ℕ). ExitHolds never_list section x) (never_exit u e) (≤ℤ_refl (pos r));
    };
    is = value_is (c + r);
  }
    where
      section : Certified
      section = record { nodes = (0, pos (c + r)) ∷ (1, pos r) ∷ []; loops = [] }

      along : (pos c +ℤ pos r) ≤ℤ pos (c + r)
      along = omega (arith, ints)

  never_too_low : c + r ≤ most_cycles → (low : ℕ) → low < c + r → SectionFails sample t bound_of (one_value None) (inside_section 3 ((0, pos low) ∷ (1, pos r) ∷ [])) (faults.Edge 3 0 1)
  never_too_low small low less = (
    refl,
    record {
      view = never_view ((0, pos low) ∷ (1, pos r) ∷ []);
      present = λ x lacks. some_none lacks.absent;
      placed = never_placed low (omega arith);
      first = record { edge = at_head {X = ℕ × ℕ} (0, 1) []; fails = fails; first = λ x y e before. absurd (none_before x y (never_edge x y e) before) };
    },
  )
    where
      fails : (pos c +ℤ pos r) ≤ℤ pos low → ⊥
      fails h = let bad : ⊥ = omega (arith, ints) in bad

      none_before : (x y : ℕ) → (0 ≡ x) × (1 ≡ y) → IsBefore (x, y) (0, 1) → ⊥
      none_before x y at (inl less') = let bad : ⊥ = omega (arith, at.0) in bad
      none_before x y at (inr (same, less')) = let bad : ⊥ = omega (arith, at.1) in bad

  -- ---- absent, or with a value

  module _ (e : ℕ) (own_return : IsOwnCost sample t 3 (At 3) e) (o : Option (Option ℕ)) (more : ℕ) (is_more : unwrap_or (greater (unwrap_or o None) None) 0 ≡ more) (goes : o ≢ Some None) where
    abbrev going_listed : Digraph
    going_listed = listed_graph 8 ((At 0, RaiseAt 0) ∷ (At 0, At 3) ∷ []) (RaiseAt 0 ∷ At 3 ∷ [])

    abbrev going_list : List ℕ
    going_list = (c + more) ∷ r ∷ 0 ∷ 0 ∷ 0 ∷ 0 ∷ e ∷ 0 ∷ []

    going_costs : AreCosts sample t 3 (IsSectionEdge sample 3 (always o)) (λ p. added sample 3 p (λ x. unwrap_or (always o p x) None)) going_listed going_list
    unfolding decoded opcodes.row_of row_of int_wrap
    going_costs = record { long = refl; each = λ u reached. by u (nodes_of_call (always o) reached) }
      where
        K : Node → Type 0
        K u = (n : ℕ) × IsOwnCost sample t 3 u n × (slice_index going_list (number_of u) ≡ n + added_at (λ p. added sample 3 p (λ x. unwrap_or (always o p x) None)) u)

        by : (u : Node) → (u ≡ At 0) ⊎ ((u ≡ At 3) ⊎ (u ≡ RaiseAt 0)) → K u
        by u (inl at) = subst K (sym at) (c, own_call, ap (λ (n : ℕ). c + n) (sym is_more))
        by u (inr (inl at)) = subst K (sym at) (e, own_return, omega arith)
        by u (inr (inr at)) = subst K (sym at) (r, own_raise, omega arith)

    abbrev going_view : (earlier : List Valued) → o ≡ within_limit c (value_in true 2 earlier) → (nodes : List (ℕ × ℤ)) → SectionView sample t earlier (inside_section 3 nodes)
    going_view earlier is nodes = record {
      coded = refl;
      told = always o;
      are_told = told_values earlier Inside (record { nodes = nodes; loops = [] }) o refl is;
      graph = going_listed;
      is_graph = going_graph (always o) goes;
      costs = going_list;
      are_costs = going_costs;
      fees = [];
      are_fees = no_fees t 3 nodes;
    }

    three_listed : (z w x : ℤ) (u : ℕ) → Contains (listed ((0, z) ∷ (1, w) ∷ (6, x) ∷ [])) u → (u ≡ 0) ⊎ ((u ≡ 1) ⊎ (u ≡ 6))
    three_listed z w x u has =
        elim (cons_cases 0 u (1 ∷ 6 ∷ []) has) [
          | inl same ↦ inl (sym same)
          | inr further ↦
              elim (cons_cases 1 u (6 ∷ []) further) [
                | inl same ↦ inr (inl (sym same))
                | inr last ↦ elim (cons_cases 6 u [] last) [ inl same ↦ inr (inr (sym same)) | inr none ↦ absurd (nil_contains u none) ]
              ]
        ]

    going_node : (u : ℕ) → (u ≡ 0) ⊎ ((u ≡ 1) ⊎ (u ≡ 6)) → (n : Node) × IsSectionNode sample 3 (always o) n × (number_of n ≡ u)
    going_node u (inl at) = (At 0, first, sym at)
    going_node u (inr (inl at)) = (RaiseAt 0, later first (raise_edge (always o)), sym at)
    going_node u (inr (inr at)) = (At 3, later first (on_edge (always o) goes), sym at)

    going_below : (u : ℕ) → (u ≡ 0) ⊎ ((u ≡ 1) ⊎ (u ≡ 6)) → u < 8
    going_below u (inl at) = omega arith
    going_below u (inr (inl at)) = omega arith
    going_below u (inr (inr at)) = omega arith

    going_meets : (earlier : List Valued) → o ≡ within_limit c (value_in true 2 earlier) → o ≢ None → c + more + (r + e) ≤ most_cycles
        → MeetsSection sample t bound_of earlier (inside_section 3 ((0, pos (c + more + (r + e))) ∷ (1, pos r) ∷ (6, pos e) ∷ [])) (Some (c + more + (r + e)))
    going_meets earlier is there small = record {
      view = going_view earlier is ((0, pos (c + more + (r + e))) ∷ (1, pos r) ∷ (6, pos e) ∷ []);
      present = λ x lacks. there lacks.absent;
      nodes = λ u wrong. placed u (inr (inl wrong));
      bounded = λ u lacks. placed u (inr (inr lacks));
      accepted = record { placed = λ u misplaced. placed u (inl misplaced); edges = edges; exits = exits };
      is = value_is (c + more + (r + e));
    }
      where
        section : Certified
        section = record { nodes = (0, pos (c + more + (r + e))) ∷ (1, pos r) ∷ (6, pos e) ∷ []; loops = [] }

        placed : NoneIsWrong bound_of (going_view earlier is ((0, pos (c + more + (r + e))) ∷ (1, pos r) ∷ (6, pos e) ∷ []))
        placed =
            none_wrong t bound_of earlier 3 section.nodes (going_view earlier is section.nodes) refl (λ u has. going_node u (three_listed (pos (c + more + (r + e))) (pos r) (pos e) u has))
            (λ u has. going_below u (three_listed (pos (c + more + (r + e))) (pos r) (pos e) u has)) (small_value section.nodes (c + more + (r + e)) refl small)

        first_along : (pos (c + more) +ℤ pos r) ≤ℤ pos (c + more + (r + e))
        first_along = omega (arith, ints)

        second_along : (pos (c + more) +ℤ pos e) ≤ℤ pos (c + more + (r + e))
        second_along = omega (arith, ints)

        edges : (u v : ℕ) → Contains {X = ℕ × ℕ} ((0, 1) ∷ (0, 6) ∷ []) (u, v) → EdgeHolds going_list section [] u v
        edges u v has =
            let K : ℕ × ℕ → Type 0 = λ z. EdgeHolds going_list section [] z.0 z.1 in
            elim (cons_cases {X = ℕ × ℕ} (0, 1) (u, v) ((0, 6) ∷ []) has) [
              | inl same ↦ subst K same first_along
              | inr further ↦ elim (cons_cases {X = ℕ × ℕ} (0, 6) (u, v) [] further) [ inl same ↦ subst K same second_along | inr none ↦ absurd (nil_contains {X = ℕ × ℕ} (u, v) none) ]
            ]

        exits : (u : ℕ) → Contains (1 ∷ 6 ∷ []) u → ExitHolds going_list section u
        exits u has =
            elim (cons_cases 1 u (6 ∷ []) has) [
              | inl same ↦ subst (λ (x : ℕ). ExitHolds going_list section x) same (≤ℤ_refl (pos r))
              | inr further ↦ elim (cons_cases 6 u [] further) [ inl same ↦ subst (λ (x : ℕ). ExitHolds going_list section x) same (≤ℤ_refl (pos e)) | inr none ↦ absurd (nil_contains u none) ]
            ]

  only_lacks : (told : TargetValues) (x : ℕ) → IsLacking sample 3 told x → x ≡ 2
  only_lacks told x lacks = by (nodes_of_call told lacks.reached)
    where
      by : (At lacks.place ≡ At 0) ⊎ ((At lacks.place ≡ At 3) ⊎ (At lacks.place ≡ RaiseAt 0)) → x ≡ 2
      by (inl at) = let p : lacks.place ≡ 0 = cc in target_is_loop x (subst (λ (q : ℕ). IsTarget sample 3 q x) p lacks.target)
      by (inr (inl at)) = let p : lacks.place ≡ 3 = cc in absurd (no_target_behind x (subst (λ (q : ℕ). IsTarget sample 3 q x) p lacks.target))
      by (inr (inr at)) = absurd (cc)

  is_lacking : IsLacking sample 3 (always None) 2
  unfolding decoded opcodes.row_of row_of int_wrap
  is_lacking = record { place = 0; reached = first; call = refl; target = invoke_target; absent = refl }

  call_section : (e : ℕ) → IsOwnCost sample t 3 (At 3) e → c + r ≤ most_cycles → CallSection t bound_of c r e
  call_section e own_return small = record {
    absent = inr (record {
      view = going_view e own_return None 0 refl none_goes [] refl [];
      least = (is_lacking, λ u less lacks. let at = only_lacks (always None) u lacks in let bad : ⊥ = omega arith in bad);
    });
    never = never_meets small;
    too_low = never_too_low small;
    returns = λ v fits. going_meets e own_return (Some (Some v)) v refl (some_goes v) (one_value (Some v)) (sym (within c v (omega arith))) (some_there v) fits;
  }
    where
      none_goes : ◌≡◌ {A = Option (Option ℕ)} None (Some None) → ⊥
      none_goes is = absurd (cc)

      some_goes : (v : ℕ) → ◌≡◌ {A = Option (Option ℕ)} (Some (Some v)) (Some None) → ⊥
      some_goes v is = absurd (cc)

      some_there : (v : ℕ) → ◌≡◌ {A = Option (Option ℕ)} (Some (Some v)) None → ⊥
      some_there v is = absurd (cc)

pub call_sections : CallSections
call_sections t bound_of c r e own_call own_raise own_return small = call_section t bound_of c r own_call own_raise e own_return small
