-- Lists of numbers that rise, and what a binary search finds in them.
use Rattle.std.proofs.Common.{◌≡◌, ℕ, zero, suc, ◌-◌, ◌<◌, ◌≤◌, ℤ, pos, true, false, ltb, eqb, List, [], ◌∷◌, length, get_or, Contains, Some, None, refl, sym, ap, ◌∙◌, inl, inr, arith}
use Rattle.std.specs.List.Sorted.{IsStrictlyIncreasing, IsNonDecreasingBy, IsPartitionPoint}
use Rattle.std.proofs.lemmas.Bool.{cases_order, cases_lt, eq-eqb, ne_eqb, cond-true, cond-false, ltb-true, ltb-false}
use Rattle.std.proofs.lemmas.List.{get_or-map, get_or_default}
use Rattle.std.proofs.lemmas.List.Kept.{AllPairs-from_increasing}
use Rattle.std.proofs.lemmas.List.Sorted.{IsNonDecreasingBy-from_default}
use Rattle.std.proofs.lemmas.List.Elements.{Contains-get_or}
use Rattle.lists.specs.Members.{rising_all, map_contains}
use Rattle.section_check.specs.Section.{listed, potential}

-- what stands in a rising list lies between its first and its last number
pub above_first : (xs : List ℕ) → IsStrictlyIncreasing xs → (u : ℕ) → Contains xs u → get_or xs 0 0 ≤ u
above_first xs h u has =
    let at = get_or_default xs has.0 0 u has.1 ∙ has.2 in
    let up = rising_all xs h 0 has.0 (omega arith) has.1 in
    omega arith

pub below_last : (xs : List ℕ) → IsStrictlyIncreasing xs → (u : ℕ) → Contains xs u → u ≤ get_or xs (length xs - 1) 0
below_last xs h u has =
    let below = has.1 in
    let at = get_or_default xs has.0 0 u has.1 ∙ has.2 in
    let up = rising_all xs h has.0 (length xs - 1) (omega arith) (omega arith) in
    omega arith

pub listed_at : (ps : List (ℕ × ℤ)) (k : ℕ) → k < length ps → get_or (listed ps) k 0 ≡ (get_or ps k (0, pos 0)).0
listed_at ps k below = get_or-map (λ (p : ℕ × ℤ). p.0) ps k (0, pos 0) 0 below

pub listed_long : (ps : List (ℕ × ℤ)) → length (listed ps) ≡ length ps
listed_long [] = refl
listed_long (p ∷ ps) = ap suc (listed_long ps)

pub listed_rise : (ps : List (ℕ × ℤ)) → IsStrictlyIncreasing (listed ps) → IsNonDecreasingBy (λ (p : ℕ × ℤ). p.0) ps
listed_rise ps h =
    IsNonDecreasingBy-from_default (λ (p : ℕ × ℤ). p.0) ps (0, pos 0) (λ i j le below.
    let r = rising_all (listed ps) h i j le (omega (arith, listed_long ps)) in
    omega (arith, listed_at ps i (omega arith), listed_at ps j below))

pub numbers_rise : (xs : List ℕ) → IsStrictlyIncreasing xs → IsNonDecreasingBy (λ (x : ℕ). x) xs
numbers_rise xs h = IsNonDecreasingBy-from_default (λ (x : ℕ). x) xs 0 (rising_all xs h)

-- the potential of a node is that of the entry that has it first
pub potential_at : (ps : List (ℕ × ℤ)) (u i : ℕ) (d : ℕ × ℤ) → i < length ps → (get_or ps i d).0 ≡ u → ((k : ℕ) → k < i → (get_or ps k d).0 ≡ u → ⊥) → potential ps u ≡ Some (get_or ps i d).1
potential_at [] u i d below same before = absurd (omega arith)
potential_at (p ∷ ps) u zero d below same before = cond-true (eqb p.0 u) (Some p.1) (potential ps u) (eq-eqb p.0 u same)
potential_at (p ∷ ps) u (suc i) d below same before =
    cond-false (eqb p.0 u) (Some p.1) (potential ps u) (ne_eqb p.0 u (before 0 (omega arith)))
    ∙ potential_at ps u i d (omega arith) same (λ k lt. before (suc k) (omega arith))

pub potential_none : (ps : List (ℕ × ℤ)) (u : ℕ) (d : ℕ × ℤ) → ((k : ℕ) → k < length ps → (get_or ps k d).0 ≡ u → ⊥) → potential ps u ≡ None
potential_none [] u d never = refl
potential_none (p ∷ ps) u d never = cond-false (eqb p.0 u) (Some p.1) (potential ps u) (ne_eqb p.0 u (never 0 (omega arith))) ∙ potential_none ps u d (λ k lt. never (suc k) (omega arith))

-- where a list that doesn't fall is parted at u, no earlier element is at u, and none at all where that at the point isn't
pub none_before : {X : Type 0} (n : X → ℕ) (xs : List X) (u i : ℕ) → IsPartitionPoint (λ y. ltb (n y) u ≡ true) (λ y. ltb (n y) u ≡ false) xs i → (k : ℕ) (d : X) → k < i → n (get_or xs k d) ≡ u → ⊥
none_before n xs u i parted k d lt same = let less = ltb-true (n (get_or xs k d)) u (parted.0 k d (omega arith) lt) in omega arith

pub none_there : {X : Type 0} (n : X → ℕ) (xs : List X) (u i : ℕ) → IsNonDecreasingBy n xs → IsPartitionPoint (λ y. ltb (n y) u ≡ true) (λ y. ltb (n y) u ≡ false) xs i → ((d : X) → i < length xs → n (get_or xs i d) ≡ u → ⊥)
    → (k : ℕ) (d : X) → k < length xs → n (get_or xs k d) ≡ u → ⊥
none_there n xs u i rise parted other k d below same =
    elim (cases_lt k i) [
      | inl lt ↦ none_before n xs u i parted k d lt same
      | inr ge ↦
          let up = rise i k d ge below in
          let high = ltb-false (n (get_or xs i d)) u (parted.1 i d (omega arith) (omega arith)) in
          other d (omega arith) (omega arith)
    ]

-- the point at which a list that doesn't fall is parted has the first element from u on
pub all_above : {X : Type 0} (n : X → ℕ) (xs : List X) (u i : ℕ) → IsPartitionPoint (λ y. ltb (n y) u ≡ true) (λ y. ltb (n y) u ≡ false) xs i → (k : ℕ) (d : X) → i ≤ k → k < length xs → u ≤ n (get_or xs k d)
all_above n xs u i parted k d le below = ltb-false (n (get_or xs k d)) u (parted.1 k d le below)

pub all_below : {X : Type 0} (n : X → ℕ) (xs : List X) (u i : ℕ) → IsPartitionPoint (λ y. ltb (n y) u ≡ true) (λ y. ltb (n y) u ≡ false) xs i → (k : ℕ) (d : X) → k < i → n (get_or xs k d) < u
all_below n xs u i parted k d lt = ltb-true (n (get_or xs k d)) u (parted.0 k d (omega arith) lt)

-- so it is the least one
pub beyond_least : {X : Type 0} (n : X → ℕ) (xs : List X) (u i : ℕ) → IsNonDecreasingBy n xs → IsPartitionPoint (λ y. ltb (n y) u ≡ true) (λ y. ltb (n y) u ≡ false) xs i → (k : ℕ) (d e : X) → i < length xs → k < length xs → u ≤ n (get_or xs k e)
    → n (get_or xs i d) ≤ n (get_or xs k e)
beyond_least n xs u i rise parted k d e here below high =
    elim (cases_lt k i) [
      | inl lt ↦ let less = all_below n xs u i parted k e lt in absurd (omega arith)
      | inr ge ↦ let up = rise i k d ge below in let same = ap n (get_or_default xs k d e below) in omega arith
    ]

pub beyond_none : {X : Type 0} (n : X → ℕ) (xs : List X) (u i : ℕ) → IsPartitionPoint (λ y. ltb (n y) u ≡ true) (λ y. ltb (n y) u ≡ false) xs i → (k : ℕ) (e : X) → length xs ≤ i → k < length xs → u ≤ n (get_or xs k e) → ⊥
beyond_none n xs u i parted k e end below high = let less = all_below n xs u i parted k e (omega arith) in omega arith

pub is_listed : (ps : List (ℕ × ℤ)) (i : ℕ) → i < length ps → Contains (listed ps) (get_or ps i (0, pos 0)).0
is_listed ps i below = map_contains (λ (p : ℕ × ℤ). p.0) ps (get_or ps i (0, pos 0)) (Contains-get_or ps i (0, pos 0) below)

pub listed_is : (ps : List (ℕ × ℤ)) (u : ℕ) → Contains (listed ps) u → (k : ℕ) × (k < length ps) × ((get_or ps k (0, pos 0)).0 ≡ u)
listed_is ps u c =
    let lt = c.1 in
    let below : c.0 < length ps = omega (arith, listed_long ps) in
    (c.0, below, sym (listed_at ps c.0 below) ∙ get_or_default (listed ps) c.0 0 u c.1 ∙ c.2)
