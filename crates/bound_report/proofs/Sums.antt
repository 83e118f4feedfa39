-- Sums over lists.
use Rattle.std.proofs.Common.{◌≡◌, ℕ, ◌+◌, ◌*◌, ◌≤◌, Bool, false, cond, List, [], ◌∷◌, map, filter, sum_by, count_by, All, Contains, refl, sym, ap, ap₂, ◌∙◌, subst, inl, inr, arith}
use Rattle.std.specs.Prelude.{if◌then◌else◌, ◌==◌}
use Rattle.std.specs.List.{flat_map}
use Rattle.std.proofs.lemmas.Bool.{cases_Bool, cases_eq, eq-eqb, ne_eqb, cond-true, cond-false}
use Rattle.std.proofs.lemmas.List.Sums.{sum_by-cons, sum_by-append}
use Rattle.std.proofs.lemmas.List.Elements.{All-contains, All-tail}
use Rattle.lists.specs.Members.{at_head, in_tail, cons_cases, nil_contains}
use Rattle.method_cache.specs.Regions.Region.{AreDistinct}
use Rattle.bound_rules.proofs.Sums.{distinct_tail, first_apart}

pub same_sum : {X : Type 0} (f g : X → ℕ) (xs : List X) → ((x : X) → Contains xs x → f x ≡ g x) → sum_by f xs ≡ sum_by g xs
same_sum f g [] each = refl
same_sum f g (x ∷ xs) each = sum_by-cons f x xs ∙ ap₂ (λ (a b : ℕ). a + b) (each x (at_head x xs)) (same_sum f g xs (λ y has. each y (in_tail x y xs has))) ∙ sym (sum_by-cons g x xs)

pub zero_sum : {X : Type 0} (xs : List X) → sum_by (λ (x : X). 0) xs ≡ 0
zero_sum [] = refl
zero_sum {X} (x ∷ xs) = omega (arith, sum_by-cons (λ (y : X). 0) x xs, zero_sum xs)

pub plus_sum : {X : Type 0} (f g : X → ℕ) (xs : List X) → sum_by (λ x. f x + g x) xs ≡ sum_by f xs + sum_by g xs
plus_sum f g [] = refl
plus_sum f g (x ∷ xs) = omega (arith, sum_by-cons (λ y. f y + g y) x xs, sum_by-cons f x xs, sum_by-cons g x xs, plus_sum f g xs)

pub times_sum : {X : Type 0} (n : ℕ) (f : X → ℕ) (xs : List X) → sum_by (λ x. n * f x) xs ≡ n * sum_by f xs
times_sum n f [] = omega arith
times_sum n f (x ∷ xs) = omega (arith, sum_by-cons (λ y. n * f y) x xs, ap (λ (k : ℕ). n * k) (sum_by-cons f x xs), times_sum n f xs)

-- a term is at most the sum
pub term_most : {X : Type 0} (f : X → ℕ) (xs : List X) (x : X) → Contains xs x → f x ≤ sum_by f xs
term_most f [] x has = absurd (nil_contains x has)
term_most f (y ∷ ys) x has =
    elim (cons_cases y x ys has) [
      | inl here ↦ let same = ap f here in omega (arith, sum_by-cons f y ys)
      | inr there ↦ omega (arith, sum_by-cons f y ys, term_most f ys x there)
    ]

-- ---- one of distinct numbers

-- what counts where the number is this one
abbrev pub at_one : (x v y : ℕ) → ℕ
at_one x v y = if x == y then v else 0

at_same : (x v y : ℕ) → x ≡ y → at_one x v y ≡ v
at_same x v y same = ap (λ (b : Bool). cond b v 0) (eq-eqb x y same)

at_other : (x v y : ℕ) → (x ≡ y → ⊥) → at_one x v y ≡ 0
at_other x v y other = ap (λ (b : Bool). cond b v 0) (ne_eqb x y other)

none_sum : (f : ℕ → ℕ) (x v : ℕ) (ys : List ℕ) → (Contains ys x → ⊥) → sum_by (λ y. at_one x v y * f y) ys ≡ 0
none_sum f x v ys none =
    same_sum (λ y. at_one x v y * f y) (λ y. 0) ys (λ y has. ap (λ (k : ℕ). k * f y) (at_other x v y (λ same. none (subst (λ (z : ℕ). Contains ys z) (sym same) has))) ∙ omega arith)
    ∙ zero_sum ys

pub one_sum : (f : ℕ → ℕ) (x v : ℕ) (ys : List ℕ) → AreDistinct ys → Contains ys x → sum_by (λ y. at_one x v y * f y) ys ≡ v * f x
one_sum f x v [] apart has = absurd (nil_contains x has)
one_sum f x v (y ∷ ys) apart has =
    let g : ℕ → ℕ = λ z. at_one x v z * f z in
    elim (cases_eq x y) [
      | inl same ↦
          let none : Contains ys x → ⊥ = λ later. first_apart y x ys apart later same in
          let here : g y ≡ v * f x = ap₂ (λ (a b : ℕ). a * b) (at_same x v y same) (ap f (sym same)) in
          omega (arith, sum_by-cons g y ys, none_sum f x v ys none, here)
      | inr other ↦
          let later : Contains ys x = elim (cons_cases y x ys has) [ inl here ↦ absurd (other (sym here)) | inr there ↦ there ] in
          let here : g y ≡ 0 = ap (λ (k : ℕ). k * f y) (at_other x v y other) ∙ omega arith in
          omega (arith, sum_by-cons g y ys, one_sum f x v ys (distinct_tail y ys apart) later, here)
    ]

-- ---- lists that are made of others

pub map_sum : {X Y : Type 0} (f : Y → ℕ) (g : X → Y) (xs : List X) → sum_by f (map g xs) ≡ sum_by (λ x. f (g x)) xs
map_sum f g [] = refl
map_sum f g (x ∷ xs) = sum_by-cons f (g x) (map g xs) ∙ (ap (λ (n : ℕ). f (g x) + n) (map_sum f g xs) ∙ sym (sum_by-cons (λ y. f (g y)) x xs))

pub flat_sum : {X Y : Type 0} (f : Y → ℕ) (g : X → List Y) (xs : List X) → sum_by f (flat_map g xs) ≡ sum_by (λ x. sum_by f (g x)) xs
flat_sum f g [] = refl
flat_sum f g (x ∷ xs) = sum_by-append f (g x) (flat_map g xs) ∙ (ap (λ (n : ℕ). sum_by f (g x) + n) (flat_sum f g xs) ∙ sym (sum_by-cons (λ y. sum_by f (g y)) x xs))

-- what is left out counts nothing
pub filter_sum : {X : Type 0} (p : X → Bool) (f : X → ℕ) (xs : List X) → ((x : X) → Contains xs x → p x ≡ false → f x ≡ 0) → sum_by f (filter p xs) ≡ sum_by f xs
filter_sum p f [] none = refl
filter_sum {X} p f (x ∷ xs) none =
    let rest = filter_sum p f xs (λ y has. none y (in_tail x y xs has)) in
    elim (cases_Bool (p x)) [
      | inl kept ↦ ap (sum_by f) (cond-true (p x) (x ∷ filter p xs) (filter p xs) kept) ∙ omega (arith, sum_by-cons f x (filter p xs), sum_by-cons f x xs, rest)
      | inr dropped ↦ ap (sum_by f) (cond-false (p x) (x ∷ filter p xs) (filter p xs) dropped) ∙ omega (arith, sum_by-cons f x xs, rest, none x (at_head x xs) dropped)
    ]

-- ---- walks

-- summed along a walk, or by the nodes with their visits
pub walk_sum : (f : ℕ → ℕ) (ys : List ℕ) → AreDistinct ys → (walk : List ℕ) → All (Contains ys) walk → sum_by f walk ≡ sum_by (λ y. count_by (λ u. u == y) walk * f y) ys
walk_sum f ys apart [] within = sym (same_sum (λ y. count_by (λ u. u == y) [] * f y) (λ y. 0) ys (λ y has. omega arith) ∙ zero_sum ys)
walk_sum f ys apart (u ∷ us) within =
    let rest = walk_sum f ys apart us (All-tail (Contains ys) u us within) in
    let here = one_sum f u 1 ys apart (All-contains (Contains ys) (u ∷ us) u within (at_head u us)) in
    let parts : (y : ℕ) → Contains ys y → count_by (λ v. v == y) (u ∷ us) * f y ≡ at_one u 1 y * f y + count_by (λ v. v == y) us * f y =
    λ y has. ap (λ (n : ℕ). n * f y) (sum_by-cons (λ (v : ℕ). if v == y then 1 else 0) u us) ∙ omega arith
    in
    let split = same_sum (λ y. count_by (λ v. v == y) (u ∷ us) * f y) (λ y. at_one u 1 y * f y + count_by (λ v. v == y) us * f y) ys parts
    ∙ plus_sum (λ y. at_one u 1 y * f y) (λ y. count_by (λ v. v == y) us * f y) ys in
    omega (arith, sum_by-cons f u us, rest, here, split)
