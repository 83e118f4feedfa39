-- The members of a loop in the order of all nodes.
use Rattle.std.proofs.Common.{◌≡◌, ℕ, ◌<◌, eqb, List, length, get_or, map, Contains, IsPermutation, sym, ap, ◌∙◌, subst, inl, inr, arith}
use Rattle.std.specs.List.Sorted.{IsNonDecreasing, IsStrictlyIncreasing}
use Rattle.std.proofs.lemmas.Bool.{cases_eq, eq-eqb, ne_eqb}
use Rattle.std.proofs.lemmas.List.{get_or-map, get_or_default, length-map}
use Rattle.std.proofs.lemmas.List.Elements.{All-from_get_or, Contains-get_or}
use Rattle.std.proofs.lemmas.List.Sorted.{Contains-permutation, IsPermutation-sym}
use Rattle.std.proofs.lemmas.Map.Keys.{IsStrictlyIncreasing-from_distinct, IsDistinct-IsPermutation}
use Rattle.lists.specs.Members.{map_contains, rising_pair}
use Rattle.loop_nest.proofs.Elements.{from_map}
use Rattle.path_solver.specs.Ordering.{AreApart}
use Rattle.path_solver.specs.Distances.{ArePlaces, ArePicked}
use Rattle.path_solver.proofs.Apart.{distinct}

flips : (x y : ℕ) → eqb x y ≡ eqb y x
flips x y =
    elim (cases_eq x y) [
      | inl same ↦ eq-eqb x y same ∙ sym (eq-eqb y x (sym same))
      | inr other ↦ ne_eqb x y other ∙ sym (ne_eqb y x (λ e. other (sym e)))
    ]

module _ (order places members ranks nodes : List ℕ) (n : ℕ) (h : ArePlaces order n places) (listed : (u : ℕ) → Contains members u → Contains order u) (rise : IsStrictlyIncreasing members) (moved : IsPermutation (map (λ u. get_or places u 0) members) ranks) (sorted : IsNonDecreasing ranks) (are : nodes ≡ map (λ r. get_or order r 0) ranks) where
  home : (u : ℕ) → Contains members u → (get_or places u 0 < length order) × (get_or order (get_or places u 0) 0 ≡ u)
  home u has =
      let c = listed u has in
      let at : get_or order c.0 0 ≡ u = get_or_default order c.0 0 u c.1 ∙ c.2 in
      let is : get_or places u 0 ≡ c.0 = ap (λ (z : ℕ). get_or places z 0) (sym at) ∙ h.each c.0 c.1 in
      let P : ℕ → Type 0 = λ k. k < length order in
      (subst P (sym is) c.1, ap (λ (k : ℕ). get_or order k 0) is ∙ at)

  from_rank : (r : ℕ) → Contains ranks r → (m : ℕ) × Contains members m × (get_or places m 0 ≡ r)
  from_rank r has = from_map (λ (u : ℕ). get_or places u 0) members r (Contains-permutation ranks (map (λ (u : ℕ). get_or places u 0) members) r (IsPermutation-sym (map (λ (u : ℕ). get_or places u 0) members) ranks moved) has)

  back : (u : ℕ) → Contains nodes u → Contains members u
  back u has =
      let P : List ℕ → Type 0 = λ ls. Contains ls u in
      let r = from_map (λ (k : ℕ). get_or order k 0) ranks u (subst P are has) in
      let m = from_rank r.0 r.1 in
      let e : m.0 ≡ u = sym (home m.0 m.1).1 ∙ ap (λ (k : ℕ). get_or order k 0) m.2 ∙ r.2 in
      let Q : ℕ → Type 0 = λ z. Contains members z in
      subst Q e m.1

  there : (u : ℕ) → Contains members u → Contains nodes u
  there u has =
      let a = map_contains (λ (z : ℕ). get_or places z 0) members u has in
      let b = Contains-permutation (map (λ (z : ℕ). get_or places z 0) members) ranks (get_or places u 0) moved a in
      let c = map_contains (λ (k : ℕ). get_or order k 0) ranks (get_or places u 0) b in
      let P : List ℕ → Type 0 = λ ls. Contains ls u in
      let Q : ℕ → Type 0 = λ z. Contains (map (λ (k : ℕ). get_or order k 0) ranks) z in
      subst P (sym are) (subst Q (home u has).1 c)

  apart : AreApart (map (λ u. get_or places u 0) members)
  apart i j lt below same =
      let f : ℕ → ℕ = λ u. get_or places u 0 in
      let long = length-map members f in
      let inside : j < length members = omega arith in
      let inside' : i < length members = omega arith in
      let a : get_or (map f members) i 0 ≡ get_or places (get_or members i 0) 0 = get_or-map f members i 0 0 inside' in
      let b : get_or (map f members) j 0 ≡ get_or places (get_or members j 0) 0 = get_or-map f members j 0 0 inside in
      let x = (home (get_or members i 0) (Contains-get_or members i 0 inside')).1 in
      let y = (home (get_or members j 0) (Contains-get_or members j 0 inside)).1 in
      let e : get_or members i 0 ≡ get_or members j 0 = sym x ∙ ap (λ (k : ℕ). get_or order k 0) (sym a ∙ same ∙ b) ∙ y in
      let up = rising_pair members rise i j lt inside in
      omega arith

  pub picked : ArePicked order members nodes
  picked = record {
    each = λ u. (back u, there u);
    ranks = ranks;
    rising = IsStrictlyIncreasing-from_distinct ranks sorted (IsDistinct-IsPermutation eqb flips (map (λ u. get_or places u 0) members) ranks moved (distinct (map (λ u. get_or places u 0) members) apart));
    within = All-from_get_or (λ r. r < length order) ranks 0 (λ i lt.
        let m = from_rank (get_or ranks i 0) (Contains-get_or ranks i 0 lt) in
        let P : ℕ → Type 0 = λ k. k < length order in
        subst P m.2 (home m.0 m.1).0);
    are = are;
  }

  -- each rank is the place of a member
  pub rank_below : (r : ℕ) → Contains ranks r → r < length order
  rank_below r has =
      let m = from_rank r has in
      let P : ℕ → Type 0 = λ k. k < length order in
      subst P m.2 (home m.0 m.1).0
