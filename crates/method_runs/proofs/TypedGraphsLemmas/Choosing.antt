-- Of a list, those items that have a property, in their order. No test tells them, but there can't be none: whether an item has the property is asked finitely often.
use Rattle.std.proofs.Common.{◌≡◌, ℕ, zero, suc, ◌+◌, ◌<◌, ◌≤◌, List, [], ◌∷◌, ◌++◌, length, map, get_or, Contains, sym, ap, subst, inl, inr, arith}
use Rattle.std.specs.List.{AllAdjacentBelow, range_with_len}
use Rattle.std.specs.List.Sorted.{IsStrictlyIncreasing}
use Rattle.std.proofs.lemmas.List.Elements.{Contains-append_left, Contains-append_right, Contains-append_cases}
use Rattle.std.proofs.lemmas.Bool.{cases_eq}
use Rattle.lists.specs.Members.{at_head, in_tail, cons_cases, nil_contains, map_contains}
use Rattle.loop_nest.specs.Digraph.{IsBefore}
use Rattle.loop_nest.proofs.Elements.{from_map}

-- ---- items that have a property

-- each item is before all later ones
abbrev pub Rises : {X : Type 0} → (X → X → Type 0) → List X → Type 0
Rises R [] = Unit {0}
Rises {X} R (x ∷ xs) = ((y : X) → Contains xs y → R x y) × Rises R xs

-- ys has just the items of xs that have the property, and rises where xs does
pub record IsKept {X : Type 0} (R : X → X → Type 0) (K : X → Type 0) (xs ys : List X) : Type 0 where
  pub each : (x : X) → Contains ys x → Contains xs x × K x
  pub all : (x : X) → Contains xs x → K x → Contains ys x
  pub rises : Rises R xs → Rises R ys

module _ {X : Type 0} (R : X → X → Type 0) (K : X → Type 0) where
  kept_nil : IsKept R K [] []
  kept_nil = record { each = λ x has. absurd (nil_contains x has); all = λ x has k. has; rises = λ h. h }

  kept_more : (x : X) (xs ys : List X) → K x → IsKept R K xs ys → IsKept R K (x ∷ xs) (x ∷ ys)
  kept_more x xs ys holds h = record {
    each = λ y has. elim (cons_cases x y ys has) [
      | inl same ↦ subst (λ (z : X). Contains (x ∷ xs) z × K z) same (at_head x xs, holds)
      | inr there ↦ let e = h.each y there in (in_tail x y xs e.0, e.1)
    ];
    all = λ y has k. elim (cons_cases x y xs has) [
      | inl same ↦ subst (λ (z : X). Contains (x ∷ ys) z) same (at_head x ys)
      | inr there ↦ in_tail x y ys (h.all y there k)
    ];
    rises = λ up. (λ y has. up.0 y (h.each y has).0, h.rises up.1);
  }

  kept_less : (x : X) (xs ys : List X) → (K x → ⊥) → IsKept R K xs ys → IsKept R K (x ∷ xs) ys
  kept_less x xs ys never h = record {
    each = λ y has. let e = h.each y has in (in_tail x y xs e.0, e.1);
    all = λ y has k. elim (cons_cases x y xs has) [
      | inl same ↦ absurd (never (subst K (sym same) k))
      | inr there ↦ h.all y there k
    ];
    rises = λ up. h.rises up.1;
  }

  pub kept : (xs : List X) → ¬ ¬ ((ys : List X) × IsKept R K xs ys)
  kept [] none = none ([], kept_nil)
  kept (x ∷ xs) none =
      kept xs (λ r. none (r.0, kept_less x xs r.0 (λ k. none (x ∷ r.0, kept_more x xs r.0 k r.1)) r.1))

-- ---- lists that rise

module _ {X : Type 0} (R : X → X → Type 0) where
  pub to_adjacent : (xs : List X) → Rises R xs → AllAdjacentBelow R xs (length xs)
  to_adjacent [] h k d below = absurd (omega arith)
  to_adjacent (x ∷ []) h k d below = absurd (omega arith)
  to_adjacent (x ∷ y ∷ ys) h zero d below = h.0 y (at_head y ys)
  to_adjacent (x ∷ y ∷ ys) h (suc k) d below =
      let e : suc (k + 1) ≡ suc k + 1 = omega arith in
      subst (λ (n : ℕ). R (get_or (y ∷ ys) k d) (get_or (x ∷ y ∷ ys) n d)) e (to_adjacent (y ∷ ys) h.1 k d (omega arith))

  rises_append : (xs ys : List X) → Rises R xs → Rises R ys → ((x y : X) → Contains xs x → Contains ys y → R x y) → Rises R (xs ++ ys)
  rises_append [] ys a b across = b
  rises_append (x ∷ xs) ys a b across = (later, rises_append xs ys a.1 b (λ z y here there. across z y (in_tail x z xs here) there))
    where
      later : (y : X) → Contains (xs ++ ys) y → R x y
      later y has = elim (Contains-append_cases xs ys y has) [ inl here ↦ a.0 y here | inr there ↦ across x y (at_head x xs) there ]

pub to_increasing : (xs : List ℕ) → Rises ◌<◌ xs → IsStrictlyIncreasing xs
to_increasing xs h k below = to_adjacent ◌<◌ xs h k 0 below

-- ---- numbers and pairs

-- the numbers from a on, so many
in_range : (a n x : ℕ) → a ≤ x → x < a + n → Contains (range_with_len a n) x
in_range a zero x from to = absurd (omega arith)
in_range a (suc n) x from to =
    elim (cases_eq a x) [
      | inl same ↦ subst (λ (y : ℕ). Contains (a ∷ range_with_len (a + 1) n) y) same (at_head a (range_with_len (a + 1) n))
      | inr other ↦ in_tail a x (range_with_len (a + 1) n) (in_range (a + 1) n x (omega (arith, other)) (omega arith))
    ]

range_within : (a n x : ℕ) → Contains (range_with_len a n) x → (a ≤ x) × (x < a + n)
range_within a zero x has = absurd (nil_contains x has)
range_within a (suc n) x has =
    elim (cons_cases a x (range_with_len (a + 1) n) has) [
      | inl same ↦ (omega arith, omega arith)
      | inr there ↦ let r = range_within (a + 1) n x there in let from = r.0 in let to = r.1 in (omega arith, omega arith)
    ]

range_rises : (a n : ℕ) → Rises ◌<◌ (range_with_len a n)
range_rises a zero = tt
range_rises a (suc n) = (λ y has. let from = (range_within (a + 1) n y has).0 in omega arith, range_rises (a + 1) n)

-- the numbers below n
abbrev pub numbers_below : ℕ → List ℕ
numbers_below n = range_with_len 0 n

pub numbers_are : (n x : ℕ) → x < n → Contains (numbers_below n) x
numbers_are n x below = in_range 0 n x (omega arith) (omega arith)

pub numbers_are_below : (n x : ℕ) → Contains (numbers_below n) x → x < n
numbers_are_below n x has = let below = (range_within 0 n x has).1 in omega arith

pub numbers_rise : (n : ℕ) → Rises ◌<◌ (numbers_below n)
numbers_rise n = range_rises 0 n

-- a number with each of others
with_each : ℕ → List ℕ → List (ℕ × ℕ)
with_each u vs = map (λ v. (u, v)) vs

-- each of these numbers with each of those
pub pairs_of : List ℕ → List ℕ → List (ℕ × ℕ)
pairs_of [] vs = []
pairs_of (u ∷ us) vs = with_each u vs ++ pairs_of us vs

with_each_is : (u : ℕ) (vs : List ℕ) (e : ℕ × ℕ) → Contains (with_each u vs) e → (e.0 ≡ u) × Contains vs e.1
unfolding with_each
with_each_is u vs e has =
    let r = from_map (λ (v : ℕ). (u, v)) vs e has in
    (ap (λ (x : ℕ × ℕ). x.0) (sym r.2), subst (λ (v : ℕ). Contains vs v) (ap (λ (x : ℕ × ℕ). x.1) r.2) r.1)

with_each_rises : (u : ℕ) (vs : List ℕ) → Rises ◌<◌ vs → Rises IsBefore (with_each u vs)
unfolding with_each
with_each_rises u [] h = tt
with_each_rises u (v ∷ vs) h = (λ e has. let is = with_each_is u vs e has in inr (sym is.0, h.0 e.1 is.1), with_each_rises u vs h.1)

pub pairs_are : (us vs : List ℕ) (u v : ℕ) → Contains us u → Contains vs v → Contains (pairs_of us vs) (u, v)
unfolding pairs_of with_each
pairs_are [] vs u v a b = absurd (nil_contains u a)
pairs_are (x ∷ us) vs u v a b =
    elim (cons_cases x u us a) [
      | inl same ↦
          let here : Contains (with_each x vs) (x, v) = map_contains (λ (y : ℕ). (x, y)) vs v b in
          subst (λ (y : ℕ). Contains (pairs_of (x ∷ us) vs) (y, v)) same (Contains-append_left (with_each x vs) (pairs_of us vs) (x, v) here)
      | inr there ↦ Contains-append_right (with_each x vs) (pairs_of us vs) (u, v) (pairs_are us vs u v there b)
    ]

pub pairs_are_of : (us vs : List ℕ) (e : ℕ × ℕ) → Contains (pairs_of us vs) e → Contains us e.0 × Contains vs e.1
unfolding pairs_of
pairs_are_of [] vs e has = absurd (nil_contains e has)
pairs_are_of (u ∷ us) vs e has =
    elim (Contains-append_cases (with_each u vs) (pairs_of us vs) e has) [
      | inl here ↦ let is = with_each_is u vs e here in (subst (λ (x : ℕ). Contains (u ∷ us) x) (sym is.0) (at_head u us), is.1)
      | inr there ↦ let is = pairs_are_of us vs e there in (in_tail u e.0 us is.0, is.1)
    ]

pub pairs_rise : (us vs : List ℕ) → Rises ◌<◌ us → Rises ◌<◌ vs → Rises IsBefore (pairs_of us vs)
unfolding pairs_of
pairs_rise [] vs a b = tt
pairs_rise (u ∷ us) vs a b =
    rises_append IsBefore (with_each u vs) (pairs_of us vs) (with_each_rises u vs b) (pairs_rise us vs a.1 b)
    (λ d e here there. let at = (with_each_is u vs d here).0 in let after = a.0 e.0 (pairs_are_of us vs e there).0 in inl (omega (arith, at, after)))
