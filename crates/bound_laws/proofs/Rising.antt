-- Lists that rise are told by what they contain.
use Rattle.std.proofs.Common.{◌≡◌, ℕ, suc, ◌+◌, ◌<◌, List, [], ◌∷◌, length, get_or, Contains, refl, sym, ap₂, ◌∙◌, subst, inl, inr, arith}
use Rattle.std.specs.List.{AllAdjacentBelow}
use Rattle.std.specs.List.Sorted.{IsStrictlyIncreasing}
use Rattle.lists.specs.Members.{at_head, in_tail, cons_cases, nil_contains, rising_pair, place_of}
use Rattle.loop_nest.specs.Digraph.{IsBefore}

-- ---- lists

-- each item is before all later ones
abbrev pub Rises : {X : Type 0} → (X → X → Type 0) → List X → Type 0
Rises R [] = Unit {0}
Rises {X} R (x ∷ xs) = ((y : X) → Contains xs y → R x y) × Rises R xs

module _ {X : Type 0} (R : X → X → Type 0) (never : (x : X) → R x x → ⊥) (through : (x y z : X) → R x y → R y z → R x z) where
  -- rising lists with the same items are one
  pub same_items : (xs ys : List X) → Rises R xs → Rises R ys → ((z : X) → Contains xs z → Contains ys z) → ((z : X) → Contains ys z → Contains xs z) → xs ≡ ys
  same_items [] [] a b to from = refl
  same_items [] (y ∷ ys) a b to from = absurd (nil_contains y (from y (at_head y ys)))
  same_items (x ∷ xs) [] a b to from = absurd (nil_contains x (to x (at_head x xs)))
  same_items (x ∷ xs) (y ∷ ys) a b to from =
      ap₂ (λ (z : X) (zs : List X). z ∷ zs) same
      (same_items xs ys a.1 b.1
      (λ z has. elim (cons_cases y z ys (to z (in_tail x z xs has))) [ inl here ↦ absurd (never x (subst (λ (w : X). R x w) (sym (same ∙ here)) (a.0 z has))) | inr there ↦ there ])
      (λ z has. elim (cons_cases x z xs (from z (in_tail y z ys has))) [ inl here ↦ absurd (never y (subst (λ (w : X). R y w) (sym (sym same ∙ here)) (b.0 z has))) | inr there ↦ there ]))
    where
      same : x ≡ y
      same =
          elim (cons_cases y x ys (to x (at_head x xs))) [
            | inl here ↦ sym here
            | inr behind ↦
                elim (cons_cases x y xs (from y (at_head y ys))) [
                  | inl here ↦ here
                  | inr before ↦ absurd (never x (through x y x (a.0 y before) (b.0 x behind)))
                ]
          ]

  adjacent_tail : (x : X) (xs : List X) → AllAdjacentBelow R (x ∷ xs) (length (x ∷ xs)) → AllAdjacentBelow R xs (length xs)
  adjacent_tail x xs h k d below =
      let e : suc k + 1 ≡ suc (k + 1) = omega arith in
      subst (λ (n : ℕ). R (get_or xs k d) (get_or (x ∷ xs) n d)) e (h (suc k) d (omega arith))

  head_before : (x : X) (xs : List X) → AllAdjacentBelow R (x ∷ xs) (length (x ∷ xs)) → (y : X) → Contains xs y → R x y
  head_before x [] h y has = absurd (nil_contains y has)
  head_before x (z ∷ zs) h y has =
      let next : R x z = h 0 x (omega arith) in
      elim (cons_cases z y zs has) [
        | inl here ↦ subst (λ (w : X). R x w) here next
        | inr there ↦ through x z y next (head_before z zs (adjacent_tail x (z ∷ zs) h) y there)
      ]

  pub from_adjacent : (xs : List X) → AllAdjacentBelow R xs (length xs) → Rises R xs
  from_adjacent [] h = tt
  from_adjacent (x ∷ xs) h = (head_before x xs h, from_adjacent xs (adjacent_tail x xs h))

increasing_tail : (x : ℕ) (xs : List ℕ) → IsStrictlyIncreasing (x ∷ xs) → IsStrictlyIncreasing xs
increasing_tail x xs h k below =
    let e : suc k + 1 ≡ suc (k + 1) = omega arith in
    subst (λ (n : ℕ). get_or xs k 0 < get_or (x ∷ xs) n 0) e (h (suc k) (omega arith))

from_increasing : (xs : List ℕ) → IsStrictlyIncreasing xs → Rises ◌<◌ xs
from_increasing [] h = tt
from_increasing (x ∷ xs) h = (λ y has. let at = place_of xs y has in let lt = rising_pair (x ∷ xs) h 0 (suc at.0) (omega arith) (let b = at.1 in omega arith) in subst (λ (w : ℕ). x < w) at.2 lt, from_increasing xs (increasing_tail x xs h))

pub same_numbers : (xs ys : List ℕ) → IsStrictlyIncreasing xs → IsStrictlyIncreasing ys → ((z : ℕ) → Contains xs z → Contains ys z) → ((z : ℕ) → Contains ys z → Contains xs z) → xs ≡ ys
same_numbers xs ys a b to from = same_items ◌<◌ (λ x lt. let bad : ⊥ = omega arith in bad) (λ x y z lt lt'. omega arith) xs ys (from_increasing xs a) (from_increasing ys b) to from

-- ---- edges

pub never_before : (e : ℕ × ℕ) → IsBefore e e → ⊥
never_before e (inl less) = omega arith
never_before e (inr same) = let less = same.1 in omega arith

pub before_through : (a b c : ℕ × ℕ) → IsBefore a b → IsBefore b c → IsBefore a c
before_through a b c (inl x) (inl y) = inl (omega arith)
before_through a b c (inl x) (inr y) = let same = y.0 in inl (omega arith)
before_through a b c (inr x) (inl y) = let same = x.0 in inl (omega arith)
before_through a b c (inr x) (inr y) = let less = x.1 in let less' = y.1 in inr (x.0 ∙ y.0, omega arith)
