-- Loop by loop in the order of the nodes.
use Rattle.std.proofs.Common.{◌≡◌, ◌≢◌, ℕ, suc, ◌+◌, ◌*◌, ◌^◌, ◌<◌, ◌≤◌, ◌⊎◌, Bool, false, List, [], ◌∷◌, ◌++◌, length, length-set, get_or, set, get_or-set_same, get_or-set_other, take, Contains, refl, sym, ap, ◌∙◌, subst, arith, inl, inr, mul_assoc, mul-le-mul_left, take_all}
use Rattle.std.specs.Prelude.{sum_by, if◌then◌else◌}
use Rattle.std.proofs.Math.Nat.{mul-le-mul_right}
use Rattle.std.proofs.lemmas.Bool.{cases_eq, false_from_ne_true}
use Rattle.std.proofs.lemmas.List.Elements.{Contains-get_or}
use Rattle.std.proofs.lemmas.Grind.{take_at_read}
use Rattle.loop_nest.specs.Nest.{NaturalLoop}
use Rattle.section_check.specs.Bounded.{BoundedLoop, holds}
use Rattle.section_check.specs.Placing.{IsEntryAt}
use Rattle.section_check.proofs.Elements.{contains_from_holds}
use Rattle.path_solver.specs.Distances.{limited, sources_at}
use Rattle.path_solver.specs.Longest.{bounded_loops}
use Rattle.path_solver.specs.Ordering.{NoLoopHas, IsHeadedAt}
use Rattle.path_solver.specs.Reaching.{IsFlagged}
use Rattle.path_solver.proofs.Correspond.{bounded_at, to_bounded}
use Rattle.path_solver.proofs.Loops.{same_at}
use Rattle.path_solver.proofs.Order.{taken_at}
use Rattle.path_solver.proofs.Structure as structure
use Rattle.bound_report.specs.declared.visits.problem.Problem.{Problem}
use Rattle.bound_report.specs.Visits.Counts.{AreCounts}
use Rattle.bound_report.specs.Visits.Paths.{IsPosed, cost_of_node, fee_of, IsPathAdded, IsWalkAdded, IsRound}
use Rattle.bound_report.proofs.VisitsLemmas.Expanding.{times}
use Rattle.bound_report.proofs.VisitsLemmas.GoingRound.{left_fee}
use Rattle.bound_report.proofs.VisitsLemmas.Concluding.{sum_at_least, plain_node, skipped, rounded}
use Rattle.bound_report.proofs.VisitsLemmas.Gluing.{g, m, all, lie, of, Counted, outer_done, inner_later, iterates, counted_first, counted_all}

as_many : (loops : List NaturalLoop) (bounds loads : List ℕ) → length bounds ≡ length loops → length loads ≡ length loops → length (bounded_loops loops bounds loads) ≡ length loops
as_many [] bounds loads b m = refl
as_many (x ∷ xs) [] loads b m = absurd (omega arith)
as_many (x ∷ xs) (y ∷ ys) [] b m = absurd (omega arith)
as_many (x ∷ xs) (y ∷ ys) (z ∷ zs) b m = ap suc (as_many xs ys zs (omega arith) (omega arith))

module _ (q : Problem) (posed : IsPosed q) where
  abbrev order : List ℕ
  order = q.found.now.topology.order.items

  -- the loops headed by the first j nodes of the order are gone round
  pub record IsGoing (j : ℕ) (visits entered : List ℕ) : Type 0 where
    pub counted : Counted q posed (take j order) visits entered
    pub few : (v : ℕ) → get_or visits v 0 ≤ 1 + j * 2 ^ 64
    pub long : length visits ≡ q.g.now.nodes
    pub noted : length entered ≡ length q.nest.now

  module _ (j : ℕ) (visits entered : List ℕ) (lt : j < length order) (going : IsGoing j visits entered) where
    abbrev u : ℕ
    u = get_or order j 0

    abbrev c : Counted q posed (take j order) visits entered
    c = going.counted

    more : take (j + 1) order ≡ take j order ++ u ∷ []
    more = (take_at_read order j 0 lt).1

    flag : IsFlagged q.found.now.listed.items u
    flag = structure.from_order q.g.now q.nest.now q.found.now.listed.items q.found.now.topology posed.measured.setting u (Contains-get_or order j 0 lt)

    not_before : ¬ Contains (take j order) u
    not_before there =
        let t = taken_at order j u there in
        posed.measured.setting.topology.ordered.apart t.0 j t.1 lt t.3

    pub going_plain : NoLoopHas q.nest.now u → IsGoing (j + 1) visits entered
    going_plain none = record {
      counted =
          let P : List ℕ → Type 0 = λ done. Counted q posed done visits entered in
          subst P (sym more)
          (plain_node (g q posed) (all q posed) (lie q posed) q.costs.now (fee_of q) q.found.now.value (take j order) visits entered c u
          (λ i k at same. let r = of q posed i k at in none i r.loop r.at (sym r.header ∙ same))
          (posed.measured.loop_costs.others u none));
      few = λ v. let le = going.few v in omega arith;
      long = going.long;
      noted = going.noted;
    }

    module _ (i : ℕ) (head : IsHeadedAt q.nest.now u i) where
      abbrev l : NaturalLoop
      l = head.headed

      abbrev k : BoundedLoop
      k = bounded_at q.nest.now q.bounds.now q.loads.now posed.measured.bounds_long posed.measured.loads_long l i

      at : IsEntryAt (all q posed) i k
      at = to_bounded q.nest.now q.bounds.now q.loads.now posed.measured.bounds_long posed.measured.loads_long i l head.at

      abbrev bound : ℕ
      bound = get_or q.bounds.now i 0

      abbrev cost : ℕ
      cost = get_or q.found.now.iteration_costs.items i 0

      abbrev load : ℕ
      load = get_or q.loads.now i 0

      abbrev visited : ℕ
      visited = get_or visits l.header 0

      flag_l : IsFlagged q.found.now.listed.items l.header
      flag_l = let P : ℕ → Type 0 = λ z. IsFlagged q.found.now.listed.items z in subst P (sym head.header) flag

      not_done : ¬ Contains (take j order) l.header
      not_done there = not_before (let P : ℕ → Type 0 = λ z. Contains (take j order) z in subst P head.header there)

      abbrev noted_now : List ℕ
      noted_now = set entered i visited

      noted_here : get_or noted_now i 0 ≡ visited
      noted_here = let below = head.at.0 in get_or-set_same entered i visited 0 (omega (arith, going.noted, below))

      noted_others : (x : ℕ) → x ≢ i → get_or noted_now x 0 ≡ get_or entered x 0
      noted_others x other = get_or-set_other entered i x visited 0 other

      limited_fee : fee_of q l.header ≡ limited (bound * cost + load)
      limited_fee = (posed.measured.loop_costs.each i l head.at (structure.in_order q.g.now q.nest.now q.found.now.listed.items q.found.now.topology posed.measured.setting l.header flag_l)).fee

      -- the fee of each visit is part of the value
      fee_within : times l.header c.nodes * fee_of q l.header ≤ q.found.now.value
      fee_within =
          let f : ℕ → ℕ = λ x. cost_of_node q x + left_fee (fee_of q) (take j order) x in
          let least = sum_at_least f l.header c.nodes in
          let none : holds (take j order) l.header ≡ false = false_from_ne_true (holds (take j order) l.header) (λ e. not_done (contains_from_holds (take j order) l.header e)) in
          let here : f l.header ≡ cost_of_node q l.header + fee_of q l.header = ap (λ (t : Bool). cost_of_node q l.header + (if t then 0 else fee_of q l.header)) none in
          let more_than : times l.header c.nodes * fee_of q l.header ≤ times l.header c.nodes * f l.header = mul-le-mul_left (times l.header c.nodes) (omega (arith, here)) in
          let spent = c.spent in
          omega arith

      exact_fee : times l.header c.nodes ≢ 0 → fee_of q l.header ≡ bound * cost + load
      exact_fee some =
          let within = fee_within in
          let one : 1 * fee_of q l.header ≤ times l.header c.nodes * fee_of q l.header = mul-le-mul_right (fee_of q l.header) (omega arith) in
          let small = posed.small in
          let is = limited_fee in
          omega arith

      fees : times l.header c.nodes * fee_of q l.header ≡ times l.header c.nodes * (bound * cost + load)
      fees = elim (cases_eq (times l.header c.nodes) 0) [
        | inl none ↦ ap (λ (n : ℕ). n * fee_of q l.header) none ∙ (omega arith ∙ sym (ap (λ (n : ℕ). n * (bound * cost + load)) none))
        | inr some ↦ ap (λ (n : ℕ). times l.header c.nodes * n) (exact_fee some)
      ]

      visited_is : visited ≡ times l.header c.nodes
      visited_is = c.visits_are l.header

      -- so many iterations that cost something are within the value
      pub count_within : 0 < cost → visited * bound ≤ q.found.now.value
      count_within some =
          let within = fee_within in
          let eq = fees in
          let v = visited_is in
          let a : times l.header c.nodes * (bound * cost) ≤ times l.header c.nodes * (bound * cost + load) = mul-le-mul_left (times l.header c.nodes) (omega arith) in
          let b : times l.header c.nodes * bound * cost ≡ times l.header c.nodes * (bound * cost) = mul_assoc (times l.header c.nodes) bound cost in
          let d : times l.header c.nodes * bound * 1 ≤ times l.header c.nodes * bound * cost = mul-le-mul_left (times l.header c.nodes * bound) (omega arith) in
          let e : visited * bound ≡ times l.header c.nodes * bound = ap (λ (n : ℕ). n * bound) v in
          omega arith

      some_visit : 0 < visited * bound → times l.header c.nodes ≢ 0
      some_visit some none =
          let zero' : visited * bound ≡ 0 * bound = ap (λ (n : ℕ). n * bound) (visited_is ∙ none) in
          omega arith

      some_bound : 0 < visited * bound → bound ≢ 0
      some_bound some none =
          let zero' : visited * bound ≡ visited * 0 = ap (λ (n : ℕ). visited * n) none in
          omega arith

      pub cost_small : 0 < visited * bound → cost < 2 ^ 64
      cost_small some =
          let is = exact_fee (some_visit some) in
          let other = some_bound some in
          let within = fee_within in
          let visit = some_visit some in
          let one : 1 * fee_of q l.header ≤ times l.header c.nodes * fee_of q l.header = mul-le-mul_right (fee_of q l.header) (omega arith) in
          let two : 1 * cost ≤ bound * cost = mul-le-mul_right cost (omega arith) in
          let small = posed.small in
          omega arith

      pub going_skipped : (visited * bound ≡ 0) ⊎ (cost ≡ 0) → IsGoing (j + 1) visits noted_now
      going_skipped spare = record {
        counted =
            let P : List ℕ → Type 0 = λ done. Counted q posed done visits noted_now in
            let Q : ℕ → Type 0 = λ z. Counted q posed (take j order ++ z ∷ []) visits noted_now in
            subst P (sym more)
            (subst Q head.header
            (skipped (g q posed) (all q posed) (lie q posed) q.costs.now (fee_of q) q.found.now.value (take j order) visits entered c i k at not_done
            (outer_done q posed j i k at flag_l not_done) noted_now noted_here noted_others cost fees
            (elim spare [ inl none ↦ inl (ap (λ (n : ℕ). n * bound) (sym visited_is) ∙ none) | inr free ↦ inr free ])));
        few = λ v. let le = going.few v in omega arith;
        long = going.long;
        noted = length-set entered i visited ∙ going.noted;
      }

      pub going_rounded : (new : List ℕ) → 0 < visited * bound → 0 < cost → IsRound q i (visited * bound) visits new → IsGoing (j + 1) new noted_now
      going_rounded new some some' r =
          let is : r.loop ≡ l = same_at q.nest.now i i r.loop l r.at head.at refl in
          let header : r.loop.header ≡ l.header = ap (λ (x : NaturalLoop). x.header) is in
          let A : ℕ → Type 0 = λ z. IsPathAdded q r.dist z r.last (visited * bound) visits new in
          let a : IsPathAdded q r.dist l.header r.last (visited * bound) visits new = subst A header r.added in
          let B : ℕ → Type 0 = λ z. Contains (sources_at q.found.now.topology.back z) r.last in
          let back : Contains (sources_at q.found.now.topology.back l.header) r.last = subst B header r.back in
          let t = iterates q posed i k at r.last a.rest a.path a.once back in
          let start : get_or r.dist l.header 0 ≡ 0 = sym (ap (λ (z : ℕ). get_or r.dist z 0) header) ∙ r.start in
          let cost_sum = a.cost in
          let cost_is = r.cost in
          let sum : sum_by (λ x. cost_of_node q x + fee_of q x) (l.header ∷ a.rest) ≡ cost + fee_of q l.header = omega arith in
          let within = count_within some' in
          let small = posed.small in
          record {
            counted =
                let P : List ℕ → Type 0 = λ done. Counted q posed done new noted_now in
                let Q : ℕ → Type 0 = λ z. Counted q posed (take j order ++ z ∷ []) new noted_now in
                subst P (sym more)
                (subst Q head.header
                (rounded (g q posed) (all q posed) (lie q posed) q.costs.now (fee_of q) q.found.now.value (take j order) visits entered c i k at not_done
                (outer_done q posed j i k at flag_l not_done) noted_now noted_here noted_others r.last a.rest t
                (λ x d. inner_later q posed j i k at flag_l not_done x (t.inside x d) (t.others x d)) cost sum (exact_fee (some_visit some)) new a.added));
            few = λ v.
                let le = going.few v in
                let is' = a.added v in
                let one : visited * bound * times v (l.header ∷ a.rest) ≤ visited * bound * 1 = mul-le-mul_left (visited * bound) (a.single v) in
                omega arith;
            long = a.long ∙ going.long;
            noted = length-set entered i visited ∙ going.noted;
          }

  -- ---- at first, and at last

  pub going_first : (visits entered : List ℕ) → IsWalkAdded q visits → ((x : ℕ) → get_or entered x 0 ≡ 0) → length visits ≡ q.g.now.nodes → length entered ≡ length q.nest.now → IsGoing 0 visits entered
  going_first visits entered w none long noted = record {
    counted = counted_first q posed w.exit w.zeros visits entered w.among w.value w.none none w.added;
    few = λ v.
        let is = w.added.added v in
        let zero' = w.none v in
        let one : 1 * times v (0 ∷ w.added.rest) ≤ 1 * 1 = mul-le-mul_left 1 (w.added.single v) in
        omega arith;
    long = long;
    noted = noted;
  }

  pub going_last : (j : ℕ) (visits entered : List ℕ) → length order ≤ j → IsGoing j visits entered
      → AreCounts q.g.now q.costs.now (bounded_loops q.nest.now q.bounds.now q.loads.now) q.found.now.value visits entered
  going_last j visits entered past going =
      let P : List ℕ → Type 0 = λ done. Counted q posed done visits entered in
      counted_all q posed visits entered (subst P (take_all j order past) going.counted) going.long
      (going.noted ∙ sym (as_many q.nest.now q.bounds.now q.loads.now posed.measured.bounds_long posed.measured.loads_long))
