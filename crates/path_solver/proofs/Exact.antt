-- Distances and iteration costs without a limit. There are some for every topological order.
use Rattle.std.proofs.Common.{◌≡◌, ◌≢◌, ℕ, zero, suc, ◌+◌, ◌-◌, ◌*◌, ◌<◌, ◌≤◌, cond, eqb, List, [], ◌∷◌, length, map, get_or, set, take, Contains, refl, sym, ap, ◌∙◌, subst, inl, inr, arith}
use Rattle.std.specs.List.Sorted.{IsStrictlyIncreasing}
use Rattle.std.proofs.lemmas.Bool.{cases_eq, cases_lt, cond-true, cond-false, eq-eqb, ne_eqb}
use Rattle.std.proofs.lemmas.List.{length-map, length-set, get_or-set_same, get_or-set_other, get_or_default}
use Rattle.std.proofs.lemmas.List.Elements.{Contains-get_or}
use Rattle.lists.specs.Members.{at_head, in_tail, cons_cases, nil_contains}
use Rattle.loop_nest.specs.Nest.{NaturalLoop, headers_of}
use Rattle.section_check.specs.Placing.{IsEntryAt}
use Rattle.path_solver.specs.declared.topology.TopologicalOrder.{TopologicalOrder}
use Rattle.path_solver.specs.Ordering.{AreApart, NoLoopHas}
use Rattle.path_solver.specs.Distances.{IsMost, sources_at}
use Rattle.path_solver.specs.Iteration.{IsOrderly}
use Rattle.path_solver.specs.LoopCosts.{AreLed}
use Rattle.path_solver.proofs.Costing.{StandsFrom}
use Rattle.path_solver.proofs.Loops.{same_place, same_at}
use Rattle.path_solver.proofs.Most.{most_same}
use Rattle.path_solver.proofs.Order.{taken_at}
use Rattle.path_solver.proofs.Headed.{headed_or_not}

-- the distance of u is the greatest cost of the walks that end with a source of an edge to it, and u's fee
pub record IsExactlyReached (sources : ℕ → List ℕ) (costs : List ℕ) (fees dist : ℕ → ℕ) (u : ℕ) : Type 0 where
  pub arriving : ℕ
  pub most : IsMost (λ q. get_or costs q 0 + dist q) (sources u) arriving
  pub is : dist u ≡ arriving + fees u

-- what an iteration of loop i, which is l, costs at most, and what its entry costs
pub record HasExactCosts (p : TopologicalOrder) (l : NaturalLoop) (i : ℕ) (costs bounds loads iteration_costs : List ℕ) (fees : ℕ → ℕ) : Type 0 where
  pub dist : ℕ → ℕ
  pub start : dist l.header ≡ 0
  pub each : (u : ℕ) → Contains l.members u → u ≢ l.header → IsExactlyReached (sources_at p.forward) costs fees dist u
  pub most : IsMost (λ q. get_or costs q 0 + dist q) (sources_at p.back l.header) (get_or iteration_costs i 0)
  pub fee : fees l.header ≡ get_or bounds i 0 * get_or iteration_costs i 0 + get_or loads i 0

-- each loop in the order has its iteration cost and its fee, the others cost nothing, and each node in the order has its distance
pub record AreExact (p : TopologicalOrder) (loops : List NaturalLoop) (costs bounds loads iteration_costs : List ℕ) (fees dist : ℕ → ℕ) : Type 0 where
  pub long : length iteration_costs ≡ length loops
  pub loop_costs : (i : ℕ) (l : NaturalLoop) → IsEntryAt loops i l → Contains p.order.items l.header → HasExactCosts p l i costs bounds loads iteration_costs fees
  pub dropped : (i : ℕ) (l : NaturalLoop) → IsEntryAt loops i l → (Contains p.order.items l.header → ⊥) → get_or iteration_costs i 0 ≡ 0
  pub others : (u : ℕ) → NoLoopHas loops u → fees u ≡ 0
  pub each : (u : ℕ) → Contains p.order.items u → IsExactlyReached (sources_at p.forward) costs fees dist u

-- ---- the greatest number

pub most_of : (f : ℕ → ℕ) (us : List ℕ) → (n : ℕ) × IsMost f us n
most_of f [] = (0, record { above = λ u has. absurd (nil_contains u has); attained = inl (refl, refl) })
most_of f (u ∷ us) =
    let r = most_of f us in
    elim (cases_lt r.0 (f u)) [
      | inl less ↦ (
        f u,
        record {
          above = λ x has.
              elim (cons_cases u x us has) [
                | inl same ↦ let e = ap f same in omega arith
                | inr there ↦ let a = r.1.above x there in omega arith
              ];
          attained = inr (u, at_head u us, refl);
        },
      )
      | inr more ↦ (
        r.0,
        record {
          above = λ x has.
              elim (cons_cases u x us has) [
                | inl same ↦ let e = ap f same in omega arith
                | inr there ↦ r.1.above x there
              ];
          attained =
              elim r.1.attained [
                | inl none ↦ let zero' = none.1 in inr (u, at_head u us, (let e : f u ≡ r.0 = omega arith in e))
                | inr some ↦ inr (some.0, in_tail u some.0 us some.1, some.2)
              ];
        },
      )
    ]

-- ---- a function that has another value at a place

abbrev put : ℕ → ℕ → (ℕ → ℕ) → ℕ → ℕ
put x n f u = cond (eqb u x) n (f u)

put_here : (x n : ℕ) (f : ℕ → ℕ) (u : ℕ) → u ≡ x → put x n f u ≡ n
put_here x n f u same = cond-true (eqb u x) n (f u) (eq-eqb u x same)

put_there : (x n : ℕ) (f : ℕ → ℕ) (u : ℕ) → u ≢ x → put x n f u ≡ f u
put_there x n f u other = cond-false (eqb u x) n (f u) (ne_eqb u x other)

-- ---- distances

module _ (src : ℕ → List ℕ) (costs : List ℕ) where
  other_distances : (fees dist dist' : ℕ → ℕ) (u : ℕ) → IsExactlyReached src costs fees dist u → dist' u ≡ dist u → ((q : ℕ) → Contains (src u) q → dist' q ≡ dist q) → IsExactlyReached src costs fees dist' u
  other_distances fees dist dist' u r here before = record {
    arriving = r.arriving;
    most = most_same (λ q. get_or costs q 0 + dist q) (λ q. get_or costs q 0 + dist' q) (src u) r.arriving (λ q has. ap (λ (d : ℕ). get_or costs q 0 + d) (before q has)) r.most;
    is = here ∙ r.is;
  }

  other_fees : (fees fees' dist : ℕ → ℕ) (u : ℕ) → IsExactlyReached src costs fees dist u → fees' u ≡ fees u → IsExactlyReached src costs fees' dist u
  other_fees fees fees' dist u r here = record { arriving = r.arriving; most = r.most; is = r.is ∙ ap (λ (f : ℕ). r.arriving + f) (sym here) }

  module _ (order : List ℕ) (apart : AreApart order) (before : (q j : ℕ) → j < length order → Contains (src (get_or order j 0)) q → Contains (take j order) q) where
    -- no edge leads from a node to itself, or to an earlier one
    never_from : (k j q : ℕ) → k ≤ j → j < length order → Contains (src (get_or order k 0)) q → q ≢ get_or order j 0
    never_from k j q le lt has same =
        let t = taken_at order k q (before q k (omega arith) has) in
        let less = t.1 in
        apart t.0 j (omega arith) lt (t.3 ∙ same)

    -- the first j nodes but h have distances, and h has none
    abbrev AreSoFar : (h : ℕ) (fees : ℕ → ℕ) (j : ℕ) (dist : ℕ → ℕ) → Type 0
    AreSoFar h fees j dist = (dist h ≡ 0) × ((k : ℕ) → k < j → get_or order k 0 ≢ h → IsExactlyReached src costs fees dist (get_or order k 0))

    further : (h : ℕ) (fees : ℕ → ℕ) (j : ℕ) → j < length order → (dist : ℕ → ℕ) → AreSoFar h fees j dist → get_or order j 0 ≢ h → (dist' : ℕ → ℕ) × AreSoFar h fees (suc j) dist'
    further h fees j lt dist so other =
        let x = get_or order j 0 in
        let a = most_of (λ q. get_or costs q 0 + dist q) (src x) in
        let dist' = put x (a.0 + fees x) dist in
        let start : dist' h ≡ 0 = put_there x (a.0 + fees x) dist h (λ same. other (sym same)) ∙ so.0 in (
          dist',
          (
            start,
            λ k less away.
                elim (cases_eq k j) [
                  | inl same ↦
                      let P : ℕ → Type 0 = λ i. IsExactlyReached src costs fees dist' (get_or order i 0) in
                      subst P (sym same) (record {
                        arriving = a.0;
                        most = most_same (λ q. get_or costs q 0 + dist q) (λ q. get_or costs q 0 + dist' q) (src x) a.0 (λ q has. ap (λ (d : ℕ). get_or costs q 0 + d) (put_there x (a.0 + fees x) dist q (never_from j j q (omega arith) lt has))) a.1;
                        is = put_here x (a.0 + fees x) dist x refl;
                      })
                  | inr apart' ↦
                      let earlier : k < j = omega arith in
                      other_distances fees dist dist' (get_or order k 0) (so.1 k earlier away) (put_there x (a.0 + fees x) dist (get_or order k 0) (apart k j earlier lt)) (λ q has. put_there x (a.0 + fees x) dist q (never_from k j q (omega arith) lt has))
                ],
          ),
        )

    first_distances : (h : ℕ) (fees : ℕ → ℕ) (j : ℕ) → j ≤ length order → (dist : ℕ → ℕ) × AreSoFar h fees j dist
    first_distances h fees zero le = (λ u. 0, (refl, λ k less. absurd (omega arith)))
    first_distances h fees (suc j) le =
        let r = first_distances h fees j (omega arith) in
        elim (cases_eq (get_or order j 0) h) [
          | inl same ↦ (
            r.0,
            (
              r.1.0,
              λ k less away.
                  elim (cases_eq k j) [
                    | inl here ↦ absurd (away (ap (λ (i : ℕ). get_or order i 0) here ∙ same))
                    | inr apart' ↦ r.1.1 k (omega arith) away
                  ],
            ),
          )
          | inr other ↦ further h fees j (omega arith) r.0 r.1 other
        ]

    -- where walks start at h, or nowhere in the order
    pub exact_distances : (h : ℕ) (fees : ℕ → ℕ) → (dist : ℕ → ℕ) × (dist h ≡ 0) × ((u : ℕ) → Contains order u → u ≢ h → IsExactlyReached src costs fees dist u)
    exact_distances h fees =
        let r = first_distances h fees (length order) (omega arith) in
        let P : ℕ → Type 0 = λ z. IsExactlyReached src costs fees r.0 z in (
          r.0,
          r.1.0,
          λ u has other.
              let at = get_or_default order has.0 0 u has.1 ∙ has.2 in
              subst P at (r.1.1 has.0 has.1 (λ same. other (sym at ∙ same))),
        )

-- ---- loops, from the end of the order

none_yet : (loops : List NaturalLoop) (i : ℕ) → ◌≡◌ {A = ℕ} (get_or (map (λ (l : NaturalLoop). 0) loops) i 0) 0
none_yet [] i = refl
none_yet (l ∷ ls) zero = refl
none_yet (l ∷ ls) (suc i) = none_yet ls i

module _ (p : TopologicalOrder) (loops : List NaturalLoop) (costs bounds loads : List ℕ) (orderly : IsOrderly (length costs) p) (rising : IsStrictlyIncreasing (headers_of loops)) (led : AreLed p.order.items loops) where
  abbrev order : List ℕ
  order = p.order.items

  abbrev src : ℕ → List ℕ
  src = sources_at p.forward

  -- the loops whose headers stand at place m of the order or later have their costs
  record AreExactFrom (m : ℕ) (iteration_costs : List ℕ) (fees : ℕ → ℕ) : Type 0 where
    long : length iteration_costs ≡ length loops
    each : (i : ℕ) (l : NaturalLoop) → IsEntryAt loops i l → StandsFrom order m l.header → HasExactCosts p l i costs bounds loads iteration_costs fees
    dropped : (i : ℕ) (l : NaturalLoop) → IsEntryAt loops i l → (StandsFrom order m l.header → ⊥) → get_or iteration_costs i 0 ≡ 0
    others : (u : ℕ) → NoLoopHas loops u → fees u ≡ 0

  module _ (m : ℕ) (lt : m < length order) where
    abbrev here : ℕ
    here = get_or order m 0

    later : (u : ℕ) → u ≢ here → StandsFrom order m u → StandsFrom order (m + 1) u
    later u other s =
        let le = s.1 in
        elim (cases_eq s.0 m) [
          | inl same ↦ absurd (other (sym s.3 ∙ ap (λ (j : ℕ). get_or order j 0) same))
          | inr more ↦ (s.0, omega arith, s.2, s.3)
        ]

    earlier : (u : ℕ) → StandsFrom order (m + 1) u → StandsFrom order m u
    earlier u s = let le = s.1 in (s.0, omega arith, s.2, s.3)

    skipped : (iteration_costs : List ℕ) (fees : ℕ → ℕ) → NoLoopHas loops here → AreExactFrom (m + 1) iteration_costs fees → AreExactFrom m iteration_costs fees
    skipped iteration_costs fees none h = record {
      long = h.long;
      each = λ i l at s. h.each i l at (later l.header (none i l at) s);
      dropped = λ i l at off. h.dropped i l at (λ s. off (earlier l.header s));
      others = h.others;
    }

    module _ (iteration_costs : List ℕ) (fees : ℕ → ℕ) (h : AreExactFrom (m + 1) iteration_costs fees) (i : ℕ) (l : NaturalLoop) (at : IsEntryAt loops i l) (heads : l.header ≡ here) (dist : ℕ → ℕ) (start : dist here ≡ 0) (each : (u : ℕ) → Contains order u → u ≢ here → IsExactlyReached src costs fees dist u)
        (cost : ℕ) (most : IsMost (λ q. get_or costs q 0 + dist q) (sources_at p.back here) cost) where
      abbrev fee : ℕ
      fee = get_or bounds i 0 * cost + get_or loads i 0

      abbrev next_costs : List ℕ
      next_costs = set iteration_costs i cost

      abbrev next_fees : ℕ → ℕ
      next_fees = put here fee fees

      other_fee : (v : ℕ) → v ≢ here → next_fees v ≡ fees v
      other_fee v other = put_there here fee fees v other

      listed : Contains order l.header
      listed = let P : ℕ → Type 0 = λ v. Contains order v in subst P (sym heads) (Contains-get_or order m 0 lt)

      this_loop : HasExactCosts p l i costs bounds loads next_costs next_fees
      this_loop =
          let long = h.long in
          let below = at.0 in
          let is : get_or next_costs i 0 ≡ cost = get_or-set_same iteration_costs i cost 0 (omega arith) in
          let P : ℕ → Type 0 = λ z. dist z ≡ 0 in
          let Q : ℕ → Type 0 = λ z. IsMost (λ q. get_or costs q 0 + dist q) (sources_at p.back z) cost in
          let R : ℕ → Type 0 = λ n. IsMost (λ q. get_or costs q 0 + dist q) (sources_at p.back l.header) n in
          record {
            dist = dist;
            start = subst P (sym heads) start;
            each = λ u inside other.
                let away : u ≢ here = λ same. other (same ∙ sym heads) in
                other_fees src costs fees next_fees dist u (each u ((led l (i, at.0, at.1) listed).members.listed u inside) away) (other_fee u away);
            most = subst R (sym is) (subst Q (sym heads) most);
            fee = put_here here fee fees l.header heads ∙ ap (λ (w : ℕ). get_or bounds i 0 * w + get_or loads i 0) (sym is);
          }

      other_header : (k : ℕ) (z : NaturalLoop) → IsEntryAt loops k z → k ≢ i → z.header ≢ here
      other_header k z at' other same = other (same_place loops rising k i z l at' at (same ∙ sym heads))

      -- a loop whose header stands later doesn't have this node among its members
      outside : (k : ℕ) (z : NaturalLoop) → IsEntryAt loops k z → z.header ≢ here → StandsFrom order (m + 1) z.header → Contains z.members here → ⊥
      outside k z at' away s has =
          let le = s.1 in
          let there : Contains order z.header = (s.0, s.2, get_or_default order s.0 z.header 0 s.2 ∙ s.3) in
          let r = taken_at order m z.header ((led z (k, at'.0, at'.1) there).first m lt has (λ same. away (sym same))) in
          let less = r.1 in
          orderly.apart r.0 s.0 (omega arith) s.2 (r.3 ∙ sym s.3)

      still : (k : ℕ) (z : NaturalLoop) → IsEntryAt loops k z → k ≢ i → StandsFrom order (m + 1) z.header → HasExactCosts p z k costs bounds loads next_costs next_fees
      still k z at' other s =
          let r = h.each k z at' s in
          let away = other_header k z at' other in
          let same : get_or next_costs k 0 ≡ get_or iteration_costs k 0 = get_or-set_other iteration_costs i k cost 0 other in
          let P : ℕ → Type 0 = λ v. Contains z.members v in
          let R : ℕ → Type 0 = λ n. IsMost (λ q. get_or costs q 0 + r.dist q) (sources_at p.back z.header) n in
          record {
            dist = r.dist;
            start = r.start;
            each = λ u inside besides. other_fees src costs fees next_fees r.dist u (r.each u inside besides) (other_fee u (λ e. outside k z at' away s (subst P e inside)));
            most = subst R (sym same) r.most;
            fee = other_fee z.header away ∙ r.fee ∙ ap (λ (w : ℕ). get_or bounds k 0 * w + get_or loads k 0) (sym same);
          }

      one_more : AreExactFrom m next_costs next_fees
      one_more = record {
        long = length-set iteration_costs i cost ∙ h.long;
        each = λ k z at' s.
            elim (cases_eq k i) [
              | inl same ↦
                  let P : NaturalLoop → Type 0 = λ y. HasExactCosts p y i costs bounds loads next_costs next_fees in
                  let Q : ℕ → Type 0 = λ j. HasExactCosts p z j costs bounds loads next_costs next_fees in
                  subst Q (sym same) (subst P (sym (same_at loops k i z l at' at same)) this_loop)
              | inr other ↦ still k z at' other (later z.header (other_header k z at' other) s)
            ];
        dropped = λ k z at' off.
            elim (cases_eq k i) [
              | inl same ↦ absurd (off (m, omega arith, lt, sym heads ∙ ap (λ (y : NaturalLoop). y.header) (sym (same_at loops k i z l at' at same))))
              | inr other ↦ get_or-set_other iteration_costs i k cost 0 other ∙ h.dropped k z at' (λ s. off (earlier z.header s))
            ];
        others = λ u none. other_fee u (λ same. none i l at (heads ∙ sym same)) ∙ h.others u none;
      }

  from_end : (n : ℕ) → n ≤ length order → (iteration_costs : List ℕ) × (fees : ℕ → ℕ) × AreExactFrom (length order - n) iteration_costs fees
  from_end zero le = (
    map (λ (l : NaturalLoop). 0) loops,
    λ u. 0,
    record {
      long = length-map loops (λ (l : NaturalLoop). 0);
      each = λ i l at s. let a = s.1 in let b = s.2 in absurd (omega arith);
      dropped = λ i l at off. none_yet loops i;
      others = λ u none. refl;
    },
  )
  from_end (suc n) le =
      let r = from_end n (omega arith) in
      let m = length order - suc n in
      let lt : m < length order = omega arith in
      let next : length order - n ≡ m + 1 = omega arith in
      let P : ℕ → Type 0 = λ z. AreExactFrom z r.0 r.1 in
      let so_far : AreExactFrom (m + 1) r.0 r.1 = subst P next r.2 in
      elim (headed_or_not loops (get_or order m 0)) [
        | inr none ↦ (r.0, r.1, skipped m lt r.0 r.1 none so_far)
        | inl head ↦
            let d = exact_distances src costs order orderly.apart orderly.before (get_or order m 0) r.1 in
            let c = most_of (λ q. get_or costs q 0 + d.0 q) (sources_at p.back (get_or order m 0)) in (
              set r.0 head.0 c.0,
              put (get_or order m 0) (get_or bounds head.0 0 * c.0 + get_or loads head.0 0) r.1,
              one_more m lt r.0 r.1 so_far head.0 head.1 head.2 head.3 d.0 d.1 d.2 c.0 c.1,
            )
      ]

  pub exact : (iteration_costs : List ℕ) × (fees : ℕ → ℕ) × (dist : ℕ → ℕ) × AreExact p loops costs bounds loads iteration_costs fees dist
  exact =
      let r = from_end (length order) (omega arith) in
      let e : length order - length order ≡ 0 = omega arith in
      let P : ℕ → Type 0 = λ z. AreExactFrom z r.0 r.1 in
      let all : AreExactFrom 0 r.0 r.1 = subst P e r.2 in
      let d = exact_distances src costs order orderly.apart orderly.before (length costs) r.1 in
      let Q : ℕ → Type 0 = λ z. z < length costs in (
        r.0,
        r.1,
        d.0,
        record {
          long = all.long;
          loop_costs = λ i l at has. all.each i l at (has.0, omega arith, has.1, get_or_default order has.0 0 l.header has.1 ∙ has.2);
          dropped = λ i l at off. all.dropped i l at (λ s. off (s.0, s.2, get_or_default order s.0 l.header 0 s.2 ∙ s.3));
          others = all.others;
          each = λ u has.
              d.2 u has (λ same.
              let below : u < length costs = subst Q has.2 (orderly.within has.0 u has.1) in
              absurd (omega arith));
        },
      )
