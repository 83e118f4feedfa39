-- Sums over some of the numbers of a list, each once.
use Rattle.std.proofs.Common.{◌≡◌, ℕ, zero, suc, ◌+◌, ◌≤◌, ◌<◌, ◌⊎◌, not, eqb, List, [], ◌∷◌, length, get_or, filter, sum_by, Contains, refl, sym, ap, ◌∙◌, subst, inl, inr, arith}
use Rattle.std.proofs.lemmas.Bool.{cases_eq, eq-eqb, ne_eqb, cond-true, cond-false}
use Rattle.std.proofs.lemmas.List.Sums.{sum_by-cons}
use Rattle.method_cache.specs.Regions.Region.{AreDistinct}

pub at_head : (x : ℕ) (xs : List ℕ) → Contains (x ∷ xs) x
at_head x xs = (0, omega arith, refl)

pub in_tail : (x y : ℕ) (xs : List ℕ) → Contains xs y → Contains (x ∷ xs) y
in_tail x y xs c = let below = c.1 in (suc c.0, omega arith, c.2)

cases_at : (x y : ℕ) (xs : List ℕ) (k : ℕ) → k < length (x ∷ xs) → get_or (x ∷ xs) k y ≡ y → (x ≡ y) ⊎ Contains xs y
cases_at x y xs zero below at = inl at
cases_at x y xs (suc k) below at = inr (k, omega arith, at)

pub cons_cases : (x y : ℕ) (xs : List ℕ) → Contains (x ∷ xs) y → (x ≡ y) ⊎ Contains xs y
cons_cases x y xs c = cases_at x y xs c.0 c.1 c.2

pub nil_contains : (y : ℕ) → Contains {X = ℕ} [] y → ⊥
nil_contains y c = let below = c.1 in omega arith

-- the numbers of a list other than x
abbrev others : ℕ → List ℕ → List ℕ
others x ys = filter (λ y. not (eqb y x)) ys

others-same : (x y : ℕ) (ys : List ℕ) → y ≡ x → others x (y ∷ ys) ≡ others x ys
others-same x y ys same = cond-false (not (eqb y x)) (y ∷ others x ys) (others x ys) (ap not (eq-eqb y x same))

others-other : (x y : ℕ) (ys : List ℕ) → (y ≡ x → ⊥) → others x (y ∷ ys) ≡ y ∷ others x ys
others-other x y ys other = cond-true (not (eqb y x)) (y ∷ others x ys) (others x ys) (ap not (ne_eqb y x other))

others_contain : (x z : ℕ) (ys : List ℕ) → (z ≡ x → ⊥) → Contains ys z → Contains (others x ys) z
others_contain x z [] ne c = c
others_contain x z (y ∷ ys) ne c =
    let P : List ℕ → Type 0 = λ zs. Contains zs z in
    elim (cases_eq y x) [
      | inl same ↦
          elim (cons_cases y z ys c) [
            | inl here ↦ absurd (ne (sym here ∙ same))
            | inr there ↦ subst P (sym (others-same x y ys same)) (others_contain x z ys ne there)
          ]
      | inr other ↦
          elim (cons_cases y z ys c) [
            | inl here ↦ subst P (sym (others-other x y ys other)) (let Q : ℕ → Type 0 = λ w. Contains (y ∷ others x ys) w in subst Q here (at_head y (others x ys)))
            | inr there ↦ subst P (sym (others-other x y ys other)) (in_tail y z (others x ys) (others_contain x z ys ne there))
          ]
    ]

others_sum : (f : ℕ → ℕ) (x : ℕ) (ys : List ℕ) → sum_by f (others x ys) ≤ sum_by f ys
others_sum f x [] = omega arith
others_sum f x (y ∷ ys) =
    let P : List ℕ → Type 0 = λ zs. sum_by f zs ≤ sum_by f (y ∷ ys) in
    let later = others_sum f x ys in
    elim (cases_eq y x) [
      | inl same ↦ subst P (sym (others-same x y ys same)) (omega (arith, sum_by-cons f y ys))
      | inr other ↦ subst P (sym (others-other x y ys other)) (omega (arith, sum_by-cons f y ys, sum_by-cons f y (others x ys)))
    ]

sum_with_others : (f : ℕ → ℕ) (x : ℕ) (ys : List ℕ) → Contains ys x → f x + sum_by f (others x ys) ≤ sum_by f ys
sum_with_others f x [] c = absurd (nil_contains x c)
sum_with_others f x (y ∷ ys) c =
    let P : List ℕ → Type 0 = λ zs. f x + sum_by f zs ≤ sum_by f (y ∷ ys) in
    elim (cases_eq y x) [
      | inl same ↦ subst P (sym (others-same x y ys same)) (omega (arith, sum_by-cons f y ys, others_sum f x ys, ap f same))
      | inr other ↦
          elim (cons_cases y x ys c) [
            | inl here ↦ absurd (other here)
            | inr there ↦
                subst P (sym (others-other x y ys other)) (omega (arith, sum_by-cons f y ys, sum_by-cons f y (others x ys), sum_with_others f x ys there))
          ]
    ]

pub distinct_tail : (x : ℕ) (xs : List ℕ) → AreDistinct (x ∷ xs) → AreDistinct xs
distinct_tail x xs apart = λ i j d less below. apart (suc i) (suc j) d (omega arith) (omega arith)

-- the first is none of the later ones
first_apart : (x z : ℕ) (xs : List ℕ) → AreDistinct (x ∷ xs) → Contains xs z → z ≡ x → ⊥
first_apart x z xs apart c same = let below = c.1 in apart 0 (suc c.0) z (omega arith) (omega arith) (sym same ∙ sym c.2)

-- some of the numbers, each once, sum to no more than all
pub sum_of_part : (f : ℕ → ℕ) (xs ys : List ℕ) → AreDistinct xs → ((z : ℕ) → Contains xs z → Contains ys z) → sum_by f xs ≤ sum_by f ys
sum_of_part f [] ys apart within = omega arith
sum_of_part f (x ∷ xs) ys apart within =
    let later =
    sum_of_part f xs (others x ys) (distinct_tail x xs apart)
    (λ z c. others_contain x z ys (first_apart x z xs apart c) (within z (in_tail x z xs c)))
    in
    omega (arith, sum_by-cons f x xs, sum_with_others f x ys (within x (at_head x xs)))
