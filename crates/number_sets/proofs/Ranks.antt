-- Ranks from an order in which each number stands behind all that are directly above it.
use Rattle.std.proofs.Common.{◌≡◌, ℕ, zero, suc, ◌<◌, ◌≤◌, Bool, true, false, ◌||◌, eqb, List, [], ◌∷◌, take, length, get_or, inl, inr, refl, sym, ap, ◌∙◌, arith}
use Rattle.std.specs.Prelude.{if◌then◌else◌, slice_index}
use Rattle.std.proofs.lemmas.Bool.{cases_lt, or_cases, or_left, or_right, eqb-true, false≢true}
use Rattle.std.proofs.lemmas.List.{get_or_past}
use Rattle.lists.specs.Numbers.{is_among, Falls}
use Rattle.number_sets.specs.Numbers.{entry, IsPeeled, HasAll}

abbrev pub rank_in : List ℕ → ℕ → ℕ
rank_in ranks c = slice_index ranks c

-- ---- places in an order

abbrev pub place : List ℕ → ℕ → ℕ
place [] c = 0
place (x ∷ xs) c = if eqb x c then 0 else suc (place xs c)

place_case : (x : ℕ) (xs : List ℕ) (c : ℕ) (b : Bool) → eqb x c ≡ b → (is_among xs c ≡ true → (get_or xs (place xs c) 0 ≡ c) × (place xs c < length xs)) → (b || is_among xs c) ≡ true
    → (get_or (x ∷ xs) (if b then 0 else suc (place xs c)) 0 ≡ c) × ((if b then 0 else suc (place xs c)) < suc (length xs))
place_case x xs c true e later h = (eqb-true x c e, omega arith)
place_case x xs c false e later h = let r = later h in (r.0, omega (arith, r.1))

pub place_among : (xs : List ℕ) (c : ℕ) → is_among xs c ≡ true → (get_or xs (place xs c) 0 ≡ c) × (place xs c < length xs)
place_among [] c h = absurd (false≢true h)
place_among (x ∷ xs) c h = place_case x xs c (eqb x c) refl (place_among xs c) h

before_case : (x : ℕ) (xs : List ℕ) (c i : ℕ) (b : Bool) → eqb x c ≡ b → (is_among (take i xs) c ≡ true → place xs c < i) → (b || is_among (take i xs) c) ≡ true → (if b then 0 else suc (place xs c)) < suc i
before_case x xs c i true e later h = omega arith
before_case x xs c i false e later h = let r = later h in omega (arith, r)

pub place_before : (xs : List ℕ) (c i : ℕ) → is_among (take i xs) c ≡ true → place xs c < i
place_before [] c zero h = absurd (false≢true h)
place_before [] c (suc i) h = absurd (false≢true h)
place_before (x ∷ xs) c zero h = absurd (false≢true h)
place_before (x ∷ xs) c (suc i) h = before_case x xs c i (eqb x c) refl (place_before xs c i) h

pub among_front : (xs : List ℕ) (c i : ℕ) → is_among (take i xs) c ≡ true → is_among xs c ≡ true
among_front [] c zero h = absurd (false≢true h)
among_front [] c (suc i) h = absurd (false≢true h)
among_front (x ∷ xs) c zero h = absurd (false≢true h)
among_front (x ∷ xs) c (suc i) h =
    elim (or_cases (eqb x c) (is_among (take i xs) c) h) [
      | inl e ↦ or_left (eqb x c) (is_among xs c) e
      | inr e ↦ or_right (eqb x c) (is_among xs c) (among_front xs c i e)
    ]

-- ---- a list of ranks

abbrev pub listed : (ℕ → ℕ) → ℕ → List ℕ
listed f zero = []
listed f (suc n) = f 0 ∷ listed (λ k. f (suc k)) n

pub listed_at : (f : ℕ → ℕ) (n c : ℕ) → c < n → get_or (listed f n) c 0 ≡ f c
listed_at f zero c h = absurd (omega (arith, h))
listed_at f (suc n) zero h = refl
listed_at f (suc n) (suc c) h = listed_at (λ k. f (suc k)) n c (omega (arith, h))

pub listed_past : (f : ℕ → ℕ) (n c : ℕ) → n ≤ c → get_or (listed f n) c 0 ≡ 0
listed_past f zero c h = refl
listed_past f (suc n) zero h = absurd (omega (arith, h))
listed_past f (suc n) (suc c) h = listed_past (λ k. f (suc k)) n c (omega (arith, h))

abbrev pub ranks_of : (most : ℕ) → List ℕ → List ℕ
ranks_of most order = listed (place order) most

entry_within : (above : List (List ℕ)) (c d : ℕ) → is_among (entry above c) d ≡ true → c < length above
entry_within above c d h =
    elim (cases_lt c (length above)) [
      | inl l ↦ l
      | inr g ↦ absurd (false≢true (sym (ap (λ xs. is_among xs d) (get_or_past above c [] g)) ∙ h))
    ]

pub falls_of : (above : List (List ℕ)) (order : List ℕ) → IsPeeled above order → HasAll (length above) order → length order ≤ length above → 0 < length above → Falls (entry above) (rank_in (ranks_of (length above) order)) (length above)
falls_of above order p all few some = record {
  bounded = λ c. elim (cases_lt c (length above)) [
    | inl l ↦
        let at = listed_at (place order) (length above) c l in
        let r = place_among order c (all c l) in
        omega (arith, at, r.1, few)
    | inr g ↦ let at = listed_past (place order) (length above) c g in omega (arith, at, some)
  ];
  falls = λ c d h.
      let l = entry_within above c d h in
      let r = place_among order c (all c l) in
      let front = p.ordered (place order c) d r.1 (ap (λ k. is_among (entry above k) d) r.0 ∙ h) in
      let before = place_before order d (place order c) front in
      let at = listed_at (place order) (length above) c l in
      let other = listed_at (place order) (length above) d (p.below d (among_front order d (place order c) front)) in
      omega (arith, before, at, other);
}
