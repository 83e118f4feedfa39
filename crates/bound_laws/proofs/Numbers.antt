-- A family of numbers goes on to one method more, where those that it may call have their numbers.
use Rattle.std.proofs.Common.{◌≡◌, ℕ, ◌+◌, ◌*◌, Bool, true, false, List, [], length, Option, Some, None, refl, sym, ap, ◌∙◌, subst}
use Rattle.std.specs.Prelude.{option_map, unwrap_or, if◌then◌else◌, ◌==◌}
use Rattle.std.proofs.lemmas.Bool.{cond-true, cond-false, eq-eqb, ne_eqb}
use Rattle.std.proofs.lemmas.List.{length-map}
use Rattle.loop_nest.specs.Digraph.{Digraph}
use Rattle.loop_nest.specs.Walks.{IsHeader}
use Rattle.loop_nest.specs.Nest.{NaturalLoop, headers_of}
use Rattle.bytecode_model.specs.Program.{Program}
use Rattle.method_flow.specs.Nodes.{Node, At, RaiseAt, IsReached}
use Rattle.method_flow.specs.Calls.{IsTarget, targets_of}
use Rattle.method_flow.specs.Live.{IsLiveEdge}
use Rattle.method_flow.specs.Graphs.{IsLiveGraph}
use Rattle.method_flow.specs.Keeping.{BoundOf}
use Rattle.method_flow.specs.Recursion.{MayCall}
use Rattle.method_flow.specs.Regions.{load}
use Rattle.method_flow.specs.declared.timing.Timing.{Timing}
use Rattle.method_flow.specs.Costs.{IsOwnCost}
use Rattle.bound_rules.specs.Costs.{added, added_at, AreCosts}
use Rattle.bound_rules.specs.Fitting.{RegionFits, loads_of, header_bound, header_bounds}
use Rattle.bound_rules.specs.Bounding.{IsLeftWith}
use Rattle.bound_rules.specs.Laws.{ReachesStarts}
use Rattle.bound_rules.specs.Numbers.{Numbers, LiveNest, charged_loops, no_fees, IsGreatestValue, AreCharged, AreLoads, is_in_charged, full_and_back, loops_adds, IsInside, IsLoops, IsFull}
use Rattle.bound_rules.specs.Numbers.IsFull.{fits, exceeds}
use Rattle.bound_rules.proofs.Owning.{same_of_each, target_calls}
use Rattle.bound_laws.specs.Walking.{GreatestWalksExist}
use Rattle.bound_laws.proofs.Living.{reached_whole}
use Rattle.bound_laws.proofs.Flows.{GraphLaws, live_takes, live_from_reached, flow_exists}
use Rattle.bound_laws.proofs.Costs.{costs_exist}
use Rattle.bound_laws.proofs.Charges.{charges_exist, loads_exist}

-- ---- families that agree

-- two families have the same numbers of a method
pub record AgreeAt (N M : Numbers) (m : ℕ) : Type 0 where
  pub inside : N.inside m ≡ M.inside m
  pub loops : N.loops m ≡ M.loops m
  pub full : N.full m ≡ M.full m

-- the family has the numbers of the method that are asked of it
pub record AreNumbersAt (P : Program) (t : Timing) (bound_of : BoundOf) (N : Numbers) (m : ℕ) : Type 0 where
  pub inside : RegionFits P t m → IsInside P t bound_of N m
  pub loops : (RegionFits P t m → ⊥) → IsLoops P t bound_of N m
  pub full : IsFull P t N m

other_costs : (P : Program) (t : Timing) (m : ℕ) (adds others : ℕ → ℕ) (g : Digraph) (costs : List ℕ) → ((p : ℕ) → IsReached (IsLiveEdge P m) (At p) → adds p ≡ others p) → AreCosts P t m (IsLiveEdge P m) adds g costs
    → AreCosts P t m (IsLiveEdge P m) others g costs
other_costs P t m adds others g costs same are = record { long = are.long; each = λ u reached. let c = are.each u reached in (c.0, c.1, c.2 ∙ by c.0 u reached) }
  where
    by : (own : ℕ) (u : Node) → IsReached (IsLiveEdge P m) u → own + added_at adds u ≡ own + added_at others u
    by own (At p) reached = ap (λ (n : ℕ). own + n) (same p reached)
    by own (RaiseAt p) reached = refl

module _ (P : Program) (t : Timing) (bound_of : BoundOf) (m : ℕ) (starts : ReachesStarts P m) (N M : Numbers) (agree : (y : ℕ) → MayCall P m y → AgreeAt N M y) where
  called : (p x : ℕ) → IsReached (IsLiveEdge P m) (At p) → IsTarget P m p x → MayCall P m x
  called p x reached target = record { place = p; start = starts p (reached_whole reached); call = target_calls P m p x target; is_target = target }

  same_inside : (p : ℕ) → IsReached (IsLiveEdge P m) (At p) → added P m p N.inside ≡ added P m p M.inside
  same_inside p reached = ap (λ (o : Option ℕ). unwrap_or o 0) (same_of_each N.inside M.inside (targets_of P m p) (λ x target. (agree x (called p x reached target)).inside))

  same_full : (p : ℕ) → IsReached (IsLiveEdge P m) (At p) → added P m p (full_and_back P t N m) ≡ added P m p (full_and_back P t M m)
  same_full p reached =
      ap (λ (o : Option ℕ). unwrap_or o 0)
      (same_of_each (full_and_back P t N m) (full_and_back P t M m) (targets_of P m p) (λ x target. ap (λ (o : Option ℕ). option_map (λ n. n + load P t.read m) o) (agree x (called p x reached target)).full))

  same_adds : (nest : List NaturalLoop) (flags : List Bool) (p : ℕ) → IsReached (IsLiveEdge P m) (At p) → loops_adds P t N m nest flags p ≡ loops_adds P t M m nest flags p
  same_adds nest flags p reached = by (is_in_charged nest flags (2 * p))
    where
      by : (b : Bool) → (if b then added P m p N.inside else added P m p (full_and_back P t N m)) ≡ (if b then added P m p M.inside else added P m p (full_and_back P t M m))
      by true = same_inside p reached
      by false = same_full p reached

  -- a number by the numbers of one family is one by those of the other
  pub inside_by : (flow : LiveNest P bound_of m) (costs : List ℕ) → AreCosts P t m (IsLiveEdge P m) (λ p. added P m p N.inside) flow.graph costs → IsGreatestValue flow.graph costs (charged_loops flow (no_fees flow)) (M.inside m)
      → IsInside P t bound_of M m
  inside_by flow costs are value =
      record { flow = flow; costs = costs; are_costs = other_costs P t m (λ p. added P m p N.inside) (λ p. added P m p M.inside) flow.graph costs same_inside are; value = value }

  pub loops_by : (flow : LiveNest P bound_of m) (flags : List Bool) → AreCharged P t m flow.nest flags → (fees : List ℕ) → AreLoads P t m flow.nest flags fees → (costs : List ℕ)
      → AreCosts P t m (IsLiveEdge P m) (loops_adds P t N m flow.nest flags) flow.graph costs → IsGreatestValue flow.graph costs (charged_loops flow fees) (M.loops m) → IsLoops P t bound_of M m
  loops_by flow flags charged fees loads costs are value = record {
    flow = flow;
    flags = flags;
    charged = charged;
    fees = fees;
    are_fees = loads;
    costs = costs;
    are_costs = other_costs P t m (loops_adds P t N m flow.nest flags) (loops_adds P t M m flow.nest flags) flow.graph costs (same_adds flow.nest flags) are;
    value = value;
  }

  -- numbers of a method are its numbers in a family that agrees on it and on those that it may call
  pub still_numbers : AgreeAt N M m → AreNumbersAt P t bound_of N m → AreNumbersAt P t bound_of M m
  still_numbers same are = record {
    inside = λ fit. let h = are.inside fit in inside_by h.flow h.costs h.are_costs (subst (λ (o : Option ℕ). IsGreatestValue h.flow.graph h.costs (charged_loops h.flow (no_fees h.flow)) o) same.inside h.value);
    loops = λ alone. let h = are.loops alone in
        loops_by h.flow h.flags h.charged h.fees h.are_fees h.costs h.are_costs (subst (λ (o : Option ℕ). IsGreatestValue h.flow.graph h.costs (charged_loops h.flow h.fees) o) same.loops h.value);
    full = by are.full;
  }
    where
      by : IsFull P t N m → IsFull P t M m
      by (fits together is) = fits together (sym same.full ∙ (is ∙ ap (λ (o : Option ℕ). option_map (λ n. n + loads_of together) o) same.inside))
      by (exceeds alone is) = exceeds alone (sym same.full ∙ (is ∙ ap (λ (o : Option ℕ). option_map (λ n. n + load P t.read m) o) same.loops))

-- ---- one method more

-- the family with these numbers of a method
pub extended : Numbers → (method : ℕ) → (inside loops full : Option ℕ) → Numbers
extended N m inside loops full = record {
  inside = λ x. if x == m then inside else N.inside x;
  loops = λ x. if x == m then loops else N.loops x;
  full = λ x. if x == m then full else N.full x;
}

pub others_agree : (N : Numbers) (m : ℕ) (inside loops full : Option ℕ) (x : ℕ) → (x ≡ m → ⊥) → AgreeAt N (extended N m inside loops full) x
unfolding extended
others_agree N m inside loops full x other = record {
  inside = sym (cond-false (x == m) inside (N.inside x) (ne_eqb x m other));
  loops = sym (cond-false (x == m) loops (N.loops x) (ne_eqb x m other));
  full = sym (cond-false (x == m) full (N.full x) (ne_eqb x m other));
}

module _ (N : Numbers) (m : ℕ) (inside loops full : Option ℕ) where
  inside_new : (extended N m inside loops full).inside m ≡ inside
  unfolding extended
  inside_new = cond-true (m == m) inside (N.inside m) (eq-eqb m m refl)

  loops_new : (extended N m inside loops full).loops m ≡ loops
  unfolding extended
  loops_new = cond-true (m == m) loops (N.loops m) (eq-eqb m m refl)

  full_new : (extended N m inside loops full).full m ≡ full
  unfolding extended
  full_new = cond-true (m == m) full (N.full m) (eq-eqb m m refl)

-- what is known of a method before its numbers
pub record IsGround (P : Program) (t : Timing) (bound_of : BoundOf) (m : ℕ) : Type 0 where
  pub left : IsLeftWith P m []
  pub lines : (p : ℕ) → IsHeader left.graph (2 * p) → bound_of m p ≡ None → ⊥
  pub graphs : ((g : Digraph) × IsLiveGraph P m g → ⊥) → ⊥
  pub own : (u : Node) → IsReached (IsLiveEdge P m) u → (c : ℕ) × IsOwnCost P t m u c
  pub starts : ReachesStarts P m

module _ (laws : GraphLaws) (greatest : GreatestWalksExist) (P : Program) (t : Timing) (bound_of : BoundOf) (m : ℕ) (ground : IsGround P t bound_of m) where
  value_exists : (flow : LiveNest P bound_of m) (costs fees : List ℕ) → length fees ≡ length flow.nest → ((v : Option ℕ) × IsGreatestValue flow.graph costs (charged_loops flow fees) v → ⊥) → ⊥
  value_exists flow costs fees long none =
      none (
        None,
        λ leaves. greatest flow.graph flow.nest costs (header_bounds bound_of m (headers_of flow.nest)) fees flow.is_live.digraph (live_from_reached laws P bound_of m ground.left flow.graph flow.is_live)
            (live_takes laws P bound_of m ground.left flow.graph flow.is_live) flow.is_nest
            (length-map (headers_of flow.nest) (λ h. unwrap_or (header_bound bound_of m h) 0) ∙ length-map flow.nest (λ (l : NaturalLoop). l.header)) long leaves (λ v. none (Some v.0, v.1)),
      )

  module _ (N : Numbers) (apart : (y : ℕ) → MayCall P m y → y ≡ m → ⊥) where
    -- a family that agrees with N on all other methods
    pub record GoesOn : Type 0 where
      pub numbers : Numbers
      pub others : (x : ℕ) → (x ≡ m → ⊥) → AgreeAt N numbers x
      pub are : AreNumbersAt P t bound_of numbers m

    with_inside : (flow : LiveNest P bound_of m) (together : RegionFits P t m) (costs : List ℕ) → AreCosts P t m (IsLiveEdge P m) (λ p. added P m p N.inside) flow.graph costs → (v : Option ℕ)
        → IsGreatestValue flow.graph costs (charged_loops flow (no_fees flow)) v → GoesOn
    with_inside flow together costs are v value =
        let full = option_map (λ n. n + loads_of together) v in
        let M = extended N m v None full in
        record {
          numbers = M;
          others = others_agree N m v None full;
          are = record {
            inside = λ fit. inside_by P t bound_of m ground.starts N M (λ y call. others_agree N m v None full y (apart y call)) flow costs are
                (subst (λ (o : Option ℕ). IsGreatestValue flow.graph costs (charged_loops flow (no_fees flow)) o) (sym (inside_new N m v None full)) value);
            loops = λ alone. absurd (alone together);
            full = fits together (full_new N m v None full ∙ ap (λ (o : Option ℕ). option_map (λ n. n + loads_of together) o) (sym (inside_new N m v None full)));
          };
        }

    with_loops : (flow : LiveNest P bound_of m) → (RegionFits P t m → ⊥) → (flags : List Bool) → AreCharged P t m flow.nest flags → (fees : List ℕ) → AreLoads P t m flow.nest flags fees → (costs : List ℕ)
        → AreCosts P t m (IsLiveEdge P m) (loops_adds P t N m flow.nest flags) flow.graph costs → (v : Option ℕ) → IsGreatestValue flow.graph costs (charged_loops flow fees) v → GoesOn
    with_loops flow alone flags charged fees loads costs are v value =
        let full = option_map (λ n. n + load P t.read m) v in
        let M = extended N m None v full in
        record {
          numbers = M;
          others = others_agree N m None v full;
          are = record {
            inside = λ fit. absurd (alone fit);
            loops = λ _. loops_by P t bound_of m ground.starts N M (λ y call. others_agree N m None v full y (apart y call)) flow flags charged fees loads costs are
                (subst (λ (o : Option ℕ). IsGreatestValue flow.graph costs (charged_loops flow fees) o) (sym (loops_new N m None v full)) value);
            full = exceeds alone (full_new N m None v full ∙ ap (λ (o : Option ℕ). option_map (λ n. n + load P t.read m) o) (sym (loops_new N m None v full)));
          };
        }

    where_fits : (flow : LiveNest P bound_of m) → RegionFits P t m → (GoesOn → ⊥) → ⊥
    where_fits flow together none =
        costs_exist P t m (IsLiveEdge P m) flow.graph flow.is_live ground.own (λ p. added P m p N.inside)
        (λ costs. value_exists flow costs.0 (no_fees flow) (length-map flow.nest (λ l. 0)) (λ v. none (with_inside flow together costs.0 costs.1 v.0 v.1)))

    where_not : (flow : LiveNest P bound_of m) → (RegionFits P t m → ⊥) → (GoesOn → ⊥) → ⊥
    where_not flow alone none =
        charges_exist laws.nested laws.dominate laws.antisymmetric P t m flow.graph flow.is_live.digraph (live_from_reached laws P bound_of m ground.left flow.graph flow.is_live) flow.nest flow.is_nest
        (λ flags. loads_exist laws.nested laws.dominate laws.antisymmetric P t m flow.graph flow.is_live.digraph (live_from_reached laws P bound_of m ground.left flow.graph flow.is_live) flow.nest flow.is_nest flags.0 flags.1
        (λ fees. costs_exist P t m (IsLiveEdge P m) flow.graph flow.is_live ground.own (loops_adds P t N m flow.nest flags.0)
        (λ costs. value_exists flow costs.0 fees.0 fees.1.long (λ v. none (with_loops flow alone flags.0 flags.1 fees.0 fees.1 costs.0 costs.1 v.0 v.1)))))

    pub goes_on_to : (GoesOn → ⊥) → ⊥
    goes_on_to none = flow_exists laws P bound_of m ground.left ground.lines ground.graphs (λ flow. where_not flow (λ together. where_fits flow together none) none)
