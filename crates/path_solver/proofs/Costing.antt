-- What iterations cost at most, loop by loop from the end of the order.
use Rattle.std.proofs.Common.{◌≡◌, ◌≢◌, ℕ, ◌+◌, ◌-◌, ◌*◌, ◌<◌, ◌≤◌, List, length, get_or, set, Contains, sym, ap, ◌∙◌, subst, inl, inr, arith}
use Rattle.std.specs.List.Sorted.{IsStrictlyIncreasing}
use Rattle.std.proofs.lemmas.Bool.{cases_eq}
use Rattle.std.proofs.lemmas.List.{length-set, get_or-set_same, get_or-set_other, get_or_default}
use Rattle.std.proofs.lemmas.List.Elements.{All-get_or, All-set, Contains-get_or}
use Rattle.loop_nest.specs.Nest.{NaturalLoop, headers_of}
use Rattle.path_solver.specs.declared.topology.TopologicalOrder.{TopologicalOrder}
use Rattle.section_check.specs.Placing.{IsEntryAt}
use Rattle.path_solver.specs.Ordering.{AreApart, IsHeadedAt, NoLoopHas}
use Rattle.path_solver.specs.Distances.{distance_limit, limited, AreLimited}
use Rattle.path_solver.specs.Iteration.{IsOrderly, AreOrderedMembers, IsIterationCost}
use Rattle.path_solver.specs.LoopCosts.{AreLed, HasLoopCosts, AreLoopCosts}
use Rattle.path_solver.proofs.Loops.{header_of, same_place}
use Rattle.path_solver.proofs.Order.{taken_at}

-- u stands in the order, at place m or later
abbrev pub StandsFrom : List ℕ → ℕ → ℕ → Type 0
StandsFrom order m u = (j : ℕ) × (m ≤ j) × (j < length order) × (get_or order j 0 ≡ u)

-- the loops whose headers stand at place m of the order or later have their iteration costs and fees; the others cost at most nothing so far
pub record AreLoopCostsFrom (p : TopologicalOrder) (loops : List NaturalLoop) (costs bounds loads : List ℕ) (m : ℕ) (iteration_costs fees : List ℕ) : Type 0 where
  pub long : length iteration_costs ≡ length loops
  pub fees_long : length fees ≡ length costs
  pub limited_iteration_costs : AreLimited iteration_costs
  pub limited_fees : AreLimited fees
  pub each : (i : ℕ) (l : NaturalLoop) → IsEntryAt loops i l → StandsFrom p.order.items m l.header → HasLoopCosts p l i costs bounds loads iteration_costs fees
  pub dropped : (i : ℕ) (l : NaturalLoop) → IsEntryAt loops i l → (StandsFrom p.order.items m l.header → ⊥) → get_or iteration_costs i 0 ≡ 0
  pub others : (u : ℕ) → NoLoopHas loops u → get_or fees u 0 ≡ 0

-- the same, with distances that fit
pub record AreLoopCostsSoFar (p : TopologicalOrder) (loops : List NaturalLoop) (costs bounds loads : List ℕ) (m : ℕ) (iteration_costs fees dist : List ℕ) : Type 0 where
  pub loop_costs : AreLoopCostsFrom p loops costs bounds loads m iteration_costs fees
  pub dist_long : length dist ≡ length costs
  pub limited_dist : AreLimited dist

-- what an iteration costs at most depends on the fees at members but the header alone
reserve_kept : (p : TopologicalOrder) (members : List ℕ) (header : ℕ) (costs fees fees' dist : List ℕ) (iteration_cost iteration_cost' : ℕ) → iteration_cost' ≡ iteration_cost → ((v : ℕ) → Contains members v → v ≢ header → get_or fees' v 0 ≡ get_or fees v 0)
    → IsIterationCost p members header costs fees dist iteration_cost → IsIterationCost p members header costs fees' dist iteration_cost'
reserve_kept p members header costs fees fees' dist iteration_cost iteration_cost' is same h =
    let P : ℕ → Type 0 = λ w. IsIterationCost p members header costs fees' dist w in
    subst P (sym is) (record {
      long = h.long;
      limited = h.limited;
      start = h.start;
      each = λ v has other.
          let r = h.each v has other in
          record { arriving = r.arriving; most = r.most; is = r.is ∙ ap (λ (f : ℕ). limited (r.arriving + f)) (sym (same v has other)) };
      most = h.most;
      small = h.small;
    })

module _ (p : TopologicalOrder) (loops : List NaturalLoop) (costs bounds loads : List ℕ) (m : ℕ) (lt : m < length p.order.items) where
  abbrev here : ℕ
  here = get_or p.order.items m 0

  -- what stands at place m or later and isn't the node at m stands later
  later : (u : ℕ) → u ≢ here → StandsFrom p.order.items m u → StandsFrom p.order.items (m + 1) u
  later u other s =
      let le = s.1 in
      elim (cases_eq s.0 m) [
        | inl same ↦ absurd (other (sym s.3 ∙ ap (λ (j : ℕ). get_or p.order.items j 0) same))
        | inr more ↦ (s.0, omega arith, s.2, s.3)
      ]

  earlier : (u : ℕ) → StandsFrom p.order.items (m + 1) u → StandsFrom p.order.items m u
  earlier u s = let le = s.1 in (s.0, omega arith, s.2, s.3)

  pub iterations_skip : (iteration_costs fees : List ℕ) → NoLoopHas loops here → AreLoopCostsFrom p loops costs bounds loads (m + 1) iteration_costs fees → AreLoopCostsFrom p loops costs bounds loads m iteration_costs fees
  iterations_skip iteration_costs fees none h = record {
    long = h.long;
    fees_long = h.fees_long;
    limited_iteration_costs = h.limited_iteration_costs;
    limited_fees = h.limited_fees;
    each = λ i l at s. h.each i l at (later l.header (none i l at) s);
    dropped = λ i l at off. h.dropped i l at (λ s. off (earlier l.header s));
    others = h.others;
  }

  module _ (apart : AreApart p.order.items) (rising : IsStrictlyIncreasing (headers_of loops)) (led : AreLed p.order.items loops) (iteration_costs fees dist : List ℕ) (i : ℕ) (l : NaturalLoop) (at : IsEntryAt loops i l) (heads : l.header ≡ here) (iteration_cost fee : ℕ) (h : AreLoopCostsFrom p loops costs bounds loads (m + 1) iteration_costs fees) (is : IsIterationCost p l.members l.header costs fees dist iteration_cost) (fee_is : fee ≡ limited (get_or bounds i 0 * iteration_cost + get_or loads i 0)) (within : here < length costs) where
    abbrev next_iteration_costs : List ℕ
    next_iteration_costs = set iteration_costs i iteration_cost

    abbrev next_fees : List ℕ
    next_fees = set fees here fee

    other_fee : (v : ℕ) → v ≢ here → get_or next_fees v 0 ≡ get_or fees v 0
    other_fee v other = get_or-set_other fees here v fee 0 other

    other_header : (k : ℕ) (z : NaturalLoop) → IsEntryAt loops k z → k ≢ i → z.header ≢ here
    other_header k z at' other same = other (same_place loops rising k i z l at' at (same ∙ sym heads))

    now_iterated : HasLoopCosts p l i costs bounds loads next_iteration_costs next_fees
    now_iterated =
        let long = h.long in
        let below = at.0 in
        let iteration_cost_is : get_or next_iteration_costs i 0 ≡ iteration_cost = get_or-set_same iteration_costs i iteration_cost 0 (omega arith) in
        let fees_long = h.fees_long in
        let P : ℕ → Type 0 = λ u. get_or next_fees u 0 ≡ fee in
        record {
          dist = dist;
          iteration_cost = reserve_kept p l.members l.header costs fees next_fees dist iteration_cost (get_or next_iteration_costs i 0) iteration_cost_is (λ v has other. other_fee v (λ same. other (same ∙ sym heads))) is;
          fee = subst P (sym heads) (get_or-set_same fees here fee 0 (omega arith)) ∙ fee_is ∙ ap (λ (w : ℕ). limited (get_or bounds i 0 * w + get_or loads i 0)) (sym iteration_cost_is);
        }

    -- a loop whose header stands later doesn't have this node among its members
    outside : (k : ℕ) (z : NaturalLoop) → IsEntryAt loops k z → z.header ≢ here → StandsFrom p.order.items (m + 1) z.header → Contains z.members here → ⊥
    outside k z at' away s has =
        let le = s.1 in
        let order = p.order.items in
        let listed : Contains order z.header = (s.0, s.2, get_or_default order s.0 z.header 0 s.2 ∙ s.3) in
        let r = taken_at order m z.header ((led z (k, at'.0, at'.1) listed).first m lt has (λ same. away (sym same))) in
        let before = r.1 in
        apart r.0 s.0 (omega arith) s.2 (r.3 ∙ sym s.3)

    still_iterated : (k : ℕ) (z : NaturalLoop) → IsEntryAt loops k z → k ≢ i → StandsFrom p.order.items (m + 1) z.header → HasLoopCosts p z k costs bounds loads next_iteration_costs next_fees
    still_iterated k z at' other s =
        let r = h.each k z at' s in
        let away = other_header k z at' other in
        let same : get_or next_iteration_costs k 0 ≡ get_or iteration_costs k 0 = get_or-set_other iteration_costs i k iteration_cost 0 other in
        let P : ℕ → Type 0 = λ v. Contains z.members v in
        record {
          dist = r.dist;
          iteration_cost = reserve_kept p z.members z.header costs fees next_fees r.dist (get_or iteration_costs k 0) (get_or next_iteration_costs k 0) same (λ v has besides. other_fee v (λ e. outside k z at' away s (subst P e has))) r.iteration_cost;
          fee = other_fee z.header away ∙ r.fee ∙ ap (λ (w : ℕ). limited (get_or bounds k 0 * w + get_or loads k 0)) (sym same);
        }

    one_loop : (k : ℕ) (z : NaturalLoop) → IsEntryAt loops k z → k ≡ i → z ≡ l
    one_loop k z at' same = sym at'.1 ∙ get_or_default loops k z l at'.0 ∙ ap (λ (j : ℕ). get_or loops j l) same ∙ at.1

    pub iterations_more : AreLoopCostsFrom p loops costs bounds loads m next_iteration_costs next_fees
    iterations_more = record {
      long = length-set iteration_costs i iteration_cost ∙ h.long;
      fees_long = length-set fees here fee ∙ h.fees_long;
      limited_iteration_costs = All-set (λ d. d ≤ distance_limit) iteration_costs i iteration_cost is.small h.limited_iteration_costs;
      limited_fees = All-set (λ d. d ≤ distance_limit) fees here fee (omega arith) h.limited_fees;
      each = λ k z at' s.
          elim (cases_eq k i) [
            | inl same ↦
                let P : NaturalLoop → Type 0 = λ y. HasLoopCosts p y i costs bounds loads next_iteration_costs next_fees in
                let Q : ℕ → Type 0 = λ j. HasLoopCosts p z j costs bounds loads next_iteration_costs next_fees in
                subst Q (sym same) (subst P (sym (one_loop k z at' same)) now_iterated)
            | inr other ↦ still_iterated k z at' other (later z.header (other_header k z at' other) s)
          ];
      dropped = λ k z at' off.
          elim (cases_eq k i) [
            | inl same ↦ absurd (off (m, omega arith, lt, sym heads ∙ ap header_of (sym (one_loop k z at' same))))
            | inr other ↦ get_or-set_other iteration_costs i k iteration_cost 0 other ∙ h.dropped k z at' (λ s. off (earlier z.header s))
          ];
      others = λ u none. other_fee u (λ same. none i l at (heads ∙ sym same)) ∙ h.others u none;
    }

-- loop i is l, and it is headed by u, which stands k places before the last one
module _ (p : TopologicalOrder) (loops : List NaturalLoop) (k u i : ℕ) (l : NaturalLoop) (lt : k < length p.order.items) (at_u : u ≡ get_or p.order.items (length p.order.items - 1 - k) 0) (head : IsHeadedAt loops u i) (is : l ≡ get_or loops i l) where
  abbrev order : List ℕ
  order = p.order.items

  abbrev place : ℕ
  place = length order - 1 - k

  heads : l.header ≡ u
  heads = ap header_of (is ∙ get_or_default loops i l head.headed head.at.0 ∙ head.at.1) ∙ head.header

  low : place < length order
  low = omega arith

  pub members_listed : (members : List ℕ) → members ≡ l.members → AreLed order loops → AreOrderedMembers order members u
  members_listed members same led =
      let P : ℕ → Type 0 = λ v. Contains order v in
      let Q : List ℕ → Type 0 = λ us. AreOrderedMembers order us u in
      let R : ℕ → Type 0 = λ v. AreOrderedMembers order l.members v in
      let listed : Contains order l.header = subst P (sym (heads ∙ at_u)) (Contains-get_or order place 0 low) in
      subst Q (sym same) (subst R heads (led l (i, head.at.0, sym is) listed).members)

  pub iterations_step : (costs bounds loads members iteration_costs fees given dist dist' : List ℕ) (iteration_cost fee : ℕ) → members ≡ l.members → given ≡ fees → fee ≡ limited (get_or bounds i 0 * iteration_cost + get_or loads i 0) → IsOrderly (length costs) p → IsStrictlyIncreasing (headers_of loops) → AreLed order loops
      → AreLoopCostsSoFar p loops costs bounds loads (length order - k) iteration_costs fees dist → IsIterationCost p members u costs given dist' iteration_cost → AreLoopCostsSoFar p loops costs bounds loads (length order - (k + 1)) (set iteration_costs i iteration_cost) (set fees u fee) dist'
  iterations_step costs bounds loads members iteration_costs fees given dist dist' iteration_cost fee same fees_are fee_is orderly rising led h iteration =
      let short = low in
      let before : place + 1 ≡ length order - k = omega arith in
      let after : place ≡ length order - (k + 1) = omega arith in
      let P : ℕ → Type 0 = λ j. AreLoopCostsFrom p loops costs bounds loads j iteration_costs fees in
      let Q : List ℕ → Type 0 = λ us. IsIterationCost p us u costs given dist' iteration_cost in
      let R : List ℕ → Type 0 = λ fs. IsIterationCost p l.members u costs fs dist' iteration_cost in
      let S : ℕ → Type 0 = λ v. IsIterationCost p l.members v costs fees dist' iteration_cost in
      let T : ℕ → Type 0 = λ v. AreLoopCostsFrom p loops costs bounds loads place (set iteration_costs i iteration_cost) (set fees v fee) in
      let U : ℕ → Type 0 = λ j. AreLoopCostsFrom p loops costs bounds loads j (set iteration_costs i iteration_cost) (set fees u fee) in
      let now : IsIterationCost p l.members l.header costs fees dist' iteration_cost = subst S (sym heads) (subst R fees_are (subst Q same iteration)) in
      let inside : get_or order place 0 < length costs = All-get_or (λ v. v < length costs) order place 0 short orderly.within in
      let more = iterations_more p loops costs bounds loads place short orderly.apart rising led iteration_costs fees dist' i l (head.at.0, sym is) (heads ∙ at_u) iteration_cost fee (subst P (sym before) h.loop_costs) now fee_is inside in
      record { loop_costs = subst U after (subst T (sym at_u) more); dist_long = iteration.long; limited_dist = iteration.limited }

pub iterations_idle : (p : TopologicalOrder) (loops : List NaturalLoop) (k : ℕ) (costs bounds loads iteration_costs fees dist : List ℕ) → k < length p.order.items → NoLoopHas loops (get_or p.order.items (length p.order.items - 1 - k) 0)
    → AreLoopCostsSoFar p loops costs bounds loads (length p.order.items - k) iteration_costs fees dist → AreLoopCostsSoFar p loops costs bounds loads (length p.order.items - (k + 1)) iteration_costs fees dist
iterations_idle p loops k costs bounds loads iteration_costs fees dist lt none h =
    let place : ℕ = length p.order.items - 1 - k in
    let low : place < length p.order.items = omega arith in
    let before : place + 1 ≡ length p.order.items - k = omega arith in
    let after : place ≡ length p.order.items - (k + 1) = omega arith in
    let P : ℕ → Type 0 = λ j. AreLoopCostsFrom p loops costs bounds loads j iteration_costs fees in
    record { loop_costs = subst P after (iterations_skip p loops costs bounds loads place low iteration_costs fees none (subst P (sym before) h.loop_costs)); dist_long = h.dist_long; limited_dist = h.limited_dist }

pub iterations_end : (p : TopologicalOrder) (loops : List NaturalLoop) (costs bounds loads iteration_costs fees : List ℕ) → AreLoopCostsFrom p loops costs bounds loads 0 iteration_costs fees → AreLoopCosts p loops costs bounds loads iteration_costs fees
iterations_end p loops costs bounds loads iteration_costs fees h = record {
  long = h.long;
  fees_long = h.fees_long;
  limited_iteration_costs = h.limited_iteration_costs;
  limited_fees = h.limited_fees;
  each = λ i l at has. h.each i l at (has.0, omega arith, has.1, get_or_default p.order.items has.0 0 l.header has.1 ∙ has.2);
  dropped = λ i l at out. h.dropped i l at (λ s. out (s.0, s.2, get_or_default p.order.items s.0 l.header 0 s.2 ∙ s.3));
  others = h.others;
}
