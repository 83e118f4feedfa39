-- A path that is found from its end, node by node.
use Rattle.std.proofs.Common.{◌≡◌, ◌≢◌, ℕ, ◌+◌, ◌*◌, ◌^◌, ◌<◌, ◌≤◌, Bool, true, false, cond, List, [], ◌∷◌, length, length-set, get_or, set, get_or-set_same, get_or-set_other, Contains, refl, sym, ap, ◌∙◌, subst, arith, inl, inr}
use Rattle.std.specs.Prelude.{◌==◌, sum_by}
use Rattle.std.proofs.lemmas.Bool.{cases_eq, eqb-true, eq-eqb, ne_eqb}
use Rattle.std.proofs.lemmas.List.{get_or_default}
use Rattle.std.proofs.lemmas.List.Sums.{sum_by-cons}
use Rattle.lists.specs.Members.{cons_cases, nil_contains}
use Rattle.path_solver.proofs.Order.{taken_at}
use Rattle.path_solver.proofs.Orderly.{source_edge}
use Rattle.path_solver.proofs.Structure as structure
use Rattle.bound_report.specs.declared.visits.problem.Problem.{Problem}
use Rattle.bound_report.specs.Visits.Paths.{IsPosed, cost_of_node, fee_of, sources, Path, rests, steps, IsPathAdded}
use Rattle.bound_report.proofs.VisitsLemmas.Expanding.{times, times-cons}
use Rattle.bound_report.proofs.VisitsLemmas.Concluding.{times_none}

module _ (q : Problem) (posed : IsPosed q) where
  abbrev place : ℕ → ℕ
  place u = get_or q.found.now.topology.places.items u 0

  -- the source of an edge that closes no loop has an earlier place
  pub place_before : (u p : ℕ) → Contains (sources q u) p → place p < place u
  place_before u p has =
      let s = posed.measured.setting in
      let order = q.found.now.topology.order.items in
      let edge = structure.forward_edge q.g.now q.nest.now q.found.now.listed.items q.found.now.topology s p u has in
      let at = structure.in_order q.g.now q.nest.now q.found.now.listed.items q.found.now.topology s u edge.2 in
      let here : get_or order at.0 0 ≡ u = get_or_default order at.0 0 u at.1 ∙ at.2 in
      let onward = source_edge s.topology.onward q.g.now.nodes q.found.now.topology.forward s.topology.forward_sources p u has in
      let E : ℕ → Type 0 = λ z. Contains s.topology.onward (p, z) in
      let found = taken_at order at.0 p (s.topology.ordered.before p at.0 at.1 (subst E (sym here) onward)) in
      let less = found.1 in
      let place_p : place p ≡ found.0 = ap place (sym found.3) ∙ s.topology.placed.each found.0 found.2 in
      let place_u : place u ≡ at.0 = ap place (sym here) ∙ s.topology.placed.each at.0 at.1 in
      omega arith

at_most_one : (t : Bool) (n all : ℕ) → all ≡ cond t 1 0 + n → (t ≡ true → n ≡ 0) → n ≤ 1 → all ≤ 1
at_most_one true n all is none le = let zero' = none refl in omega arith
at_most_one false n all is none le = omega arith

-- the part of a path from u to its end, whose nodes were counted
pub record IsAdding (q : Problem) (dist inside : List ℕ) (start end count : ℕ) (old new : List ℕ) (u : ℕ) : Type 0 where
  pub rest : List ℕ
  pub path : Path q u end (u ∷ rest)
  pub here : Contains inside u
  pub low : get_or dist u 0 < 2 ^ 65
  pub avoids : ¬ Contains rest start
  pub single : (v : ℕ) → times v (u ∷ rest) ≤ 1
  pub cost : sum_by (λ x. cost_of_node q x + fee_of q x) (u ∷ rest) + get_or dist u 0 ≡ cost_of_node q end + get_or dist end 0 + fee_of q u
  pub long : length new ≡ length old
  pub added : (v : ℕ) → get_or new v 0 ≡ get_or old v 0 + count * times v (u ∷ rest)
  pub behind : (v : ℕ) → Contains (u ∷ rest) v → get_or q.found.now.topology.places.items u 0 ≤ get_or q.found.now.topology.places.items v 0

module _ (q : Problem) (posed : IsPosed q) (dist inside : List ℕ) (start end count : ℕ) (old : List ℕ) where
  pub adding_first : (new : List ℕ) → Contains inside end → get_or dist end 0 < 2 ^ 65 → end < length old → new ≡ set old end (get_or old end 0 + count) → IsAdding q dist inside start end count old new end
  adding_first new there low within is = record {
    rest = [];
    path = rests;
    here = there;
    low = low;
    avoids = λ c. nil_contains start c;
    single = λ v. at_most_one (end == v) 0 (times v (end ∷ [])) (times-cons v end []) (λ e. refl) (omega arith);
    cost = let one = sum_by-cons (λ x. cost_of_node q x + fee_of q x) end [] in omega (arith, one);
    long = ap length is ∙ length-set old end (get_or old end 0 + count);
    added = λ v. ap (λ (xs : List ℕ). get_or xs v 0) is ∙ elim (cases_eq v end) [
      | inl same ↦
          let one : times v (end ∷ []) ≡ 1 + 0 = times-cons v end [] ∙ ap (λ (t : Bool). cond t 1 0 + 0) (eq-eqb end v (sym same)) in
          let at : get_or (set old end (get_or old end 0 + count)) v 0 ≡ get_or old end 0 + count = ap (λ (z : ℕ). get_or (set old end (get_or old end 0 + count)) z 0) same ∙ get_or-set_same old end (get_or old end 0 + count) 0 within in
          let old_at = ap (λ (z : ℕ). get_or old z 0) same in
          let product = ap (λ (n : ℕ). count * n) one in
          omega arith
      | inr other ↦
          let none : times v (end ∷ []) ≡ 0 + 0 = times-cons v end [] ∙ ap (λ (t : Bool). cond t 1 0 + 0) (ne_eqb end v (λ e. other (sym e))) in
          let at = get_or-set_other old end v (get_or old end 0 + count) 0 other in
          let product = ap (λ (n : ℕ). count * n) none in
          omega arith
    ];
    behind = λ v c. elim (cons_cases end v [] c) [
      | inl same ↦ let e = ap (λ (z : ℕ). get_or q.found.now.topology.places.items z 0) same in omega arith
      | inr never ↦ absurd (nil_contains v never)
    ];
  }

  module _ (vis : List ℕ) (u p : ℕ) (so_far : IsAdding q dist inside start end count old vis u) (has : Contains (sources q u) p) where
    not_yet : ¬ Contains (u ∷ so_far.rest) p
    not_yet c = let less = place_before q posed u p has in let le = so_far.behind p c in omega arith

    none : times p (u ∷ so_far.rest) ≡ 0
    none = times_none p (u ∷ so_far.rest) not_yet

    -- the count of the node before is still as it was
    pub still_old : get_or vis p 0 ≡ get_or old p 0
    still_old = let a = so_far.added p in let product = ap (λ (n : ℕ). count * n) none in omega arith

    pub adding_next : (new : List ℕ) → Contains inside p → u ≢ start → cost_of_node q p + get_or dist p 0 + fee_of q u ≡ get_or dist u 0 → p < length vis → new ≡ set vis p (get_or vis p 0 + count)
        → IsAdding q dist inside start end count old new p
    adding_next new there other tight within is = record {
      rest = u ∷ so_far.rest;
      path = steps has so_far.path;
      here = there;
      low = let low = so_far.low in omega arith;
      avoids = λ c. elim (cons_cases u start so_far.rest c) [ inl same ↦ other same | inr later ↦ so_far.avoids later ];
      single = λ v.
          at_most_one (p == v) (times v (u ∷ so_far.rest)) (times v (p ∷ u ∷ so_far.rest)) (times-cons v p (u ∷ so_far.rest))
          (λ e. ap (λ (z : ℕ). times z (u ∷ so_far.rest)) (sym (eqb-true p v e)) ∙ none) (so_far.single v);
      cost = let one = sum_by-cons (λ x. cost_of_node q x + fee_of q x) p (u ∷ so_far.rest) in let cost = so_far.cost in omega (arith, one, cost, tight);
      long = ap length is ∙ (length-set vis p (get_or vis p 0 + count) ∙ so_far.long);
      added = λ v. ap (λ (xs : List ℕ). get_or xs v 0) is ∙ elim (cases_eq v p) [
        | inl same ↦
            let one : times v (p ∷ u ∷ so_far.rest) ≡ 1 + times v (u ∷ so_far.rest) = times-cons v p (u ∷ so_far.rest) ∙ ap (λ (t : Bool). cond t 1 0 + times v (u ∷ so_far.rest)) (eq-eqb p v (sym same)) in
            let at : get_or (set vis p (get_or vis p 0 + count)) v 0 ≡ get_or vis p 0 + count = ap (λ (z : ℕ). get_or (set vis p (get_or vis p 0 + count)) z 0) same ∙ get_or-set_same vis p (get_or vis p 0 + count) 0 within in
            let vis_at = ap (λ (z : ℕ). get_or vis z 0) same in
            let so = so_far.added v in
            let product = ap (λ (n : ℕ). count * n) one in
            omega arith
        | inr apart ↦
            let one : times v (p ∷ u ∷ so_far.rest) ≡ 0 + times v (u ∷ so_far.rest) = times-cons v p (u ∷ so_far.rest) ∙ ap (λ (t : Bool). cond t 1 0 + times v (u ∷ so_far.rest)) (ne_eqb p v (λ e. apart (sym e))) in
            let at = get_or-set_other vis p v (get_or vis p 0 + count) 0 apart in
            let so = so_far.added v in
            let product = ap (λ (n : ℕ). count * n) one in
            omega arith
      ];
      behind = λ v c. elim (cons_cases p v (u ∷ so_far.rest) c) [
        | inl same ↦ let e = ap (λ (z : ℕ). get_or q.found.now.topology.places.items z 0) same in omega arith
        | inr later ↦ let less = place_before q posed u p has in let le = so_far.behind v later in omega arith
      ];
    }

  -- at the start the path is whole
  pub adding_last : (new : List ℕ) (u : ℕ) → u ≡ start → IsAdding q dist inside start end count old new u → IsPathAdded q dist start end count old new
  adding_last new u same a =
      let P : ℕ → Type 0 = λ z. IsAdding q dist inside start end count old new z in
      let b = subst P same a in
      record { rest = b.rest; path = b.path; once = b.avoids; single = b.single; cost = b.cost; long = b.long; added = b.added }
