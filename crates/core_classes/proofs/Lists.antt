-- Lists that pass tests, and numbers below others.
use Rattle.std.proofs.Common.{◌≡◌, ℕ, zero, suc, ◌+◌, ◌<◌, Bool, true, false, not, ◌&&◌, ◌||◌, ◌==◌, List, [], ◌∷◌, ◌++◌, length, Option, Some, None, refl, sym, ap, ◌∙◌, arith, zero-add}
use Rattle.std.specs.Prelude.{slice_get, nat_lt, if◌then◌else◌}
use Rattle.std.specs.List.{list_all, list_any, filter, flat_map, enumerate_from, AllByRecursion}
use Rattle.std.proofs.lemmas.Bool.{ltb-true, eqb-true}
use Rattle.lists.specs.Tests.{and_left, and_right}
use Rattle.lists.specs.Lists.{onto, index_of}
use Rattle.lists.specs.Numbers.{reached, is_among}

pub or_right : (a b : Bool) → (a || b) ≡ true → a ≡ false → b ≡ true
or_right true b h e = absurd (let f : true ≡ false = e in cc)
or_right false b h e = h

pub no_left : (a b : Bool) → (a || b) ≡ false → a ≡ false
no_left true b h = h
no_left false b h = refl

pub no_right : (a b : Bool) → (a || b) ≡ false → b ≡ false
no_right true b h = absurd (let f : true ≡ false = h in cc)
no_right false b h = h

pub not_not : (b : Bool) → not b ≡ true → b ≡ false
not_not true h = absurd (let f : false ≡ true = h in cc)
not_not false h = refl

-- ---- items at their places

pub all_at : {X : Type 0} (P : X → Type 0) (xs : List X) (i : ℕ) (x : X) → AllByRecursion P xs → slice_get xs i ≡ Some x → P x
all_at P [] i x all at = absurd (let f : None ≡ Some x = at in cc)
all_at P (y ∷ xs) zero x all at = let e : y ≡ x = cc in rw (← e) all.0
all_at P (y ∷ xs) (suc i) x all at = all_at P xs i x all.1 at

pub true_at : {X : Type 0} (t : X → Bool) (xs : List X) (i : ℕ) (x : X) → list_all t xs ≡ true → slice_get xs i ≡ Some x → t x ≡ true
true_at t [] i x all at = absurd (let f : None ≡ Some x = at in cc)
true_at t (y ∷ xs) zero x all at = let e : y ≡ x = cc in rw (← e) (and_left (t y) (list_all t xs) all)
true_at t (y ∷ xs) (suc i) x all at = true_at t xs i x (and_right (t y) (list_all t xs) all) at

numbered_from : {X : Type 0} (t : ℕ × X → Bool) (n : ℕ) (xs : List X) (i : ℕ) (x : X) → list_all t (enumerate_from n xs) ≡ true → slice_get xs i ≡ Some x → t (n + i, x) ≡ true
numbered_from t n [] i x all at = absurd (let f : None ≡ Some x = at in cc)
numbered_from t n (y ∷ xs) zero x all at =
    let e : y ≡ x = cc in
    let z : n + 0 ≡ n = omega arith in
    ap (λ (k : ℕ). t (k, x)) z ∙ (ap (λ (w : _). t (n, w)) (sym e) ∙ and_left (t (n, y)) (list_all t (enumerate_from (n + 1) xs)) all)
numbered_from t n (y ∷ xs) (suc i) x all at =
    let z : n + suc i ≡ n + 1 + i = omega arith in
    ap (λ (k : ℕ). t (k, x)) z ∙ numbered_from t (n + 1) xs i x (and_right (t (n, y)) (list_all t (enumerate_from (n + 1) xs)) all) at

pub numbered_at : {X : Type 0} (t : ℕ × X → Bool) (xs : List X) (i : ℕ) (x : X) → list_all t (enumerate_from 0 xs) ≡ true → slice_get xs i ≡ Some x → t (i, x) ≡ true
numbered_at t xs i x all at = ap (λ (k : ℕ). t (k, x)) (sym (zero-add i)) ∙ numbered_from t 0 xs i x all at

pub there : {X : Type 0} (xs : List X) (i : ℕ) → i < length xs → (x : X) × (slice_get xs i ≡ Some x)
there [] i lt = absurd (omega arith)
there (x ∷ xs) zero lt = (x, refl)
there (x ∷ xs) (suc i) lt = there xs i (omega arith)

pub in_front : {X : Type 0} (xs ys : List X) (i : ℕ) (x : X) → slice_get xs i ≡ Some x → slice_get (xs ++ ys) i ≡ Some x
in_front [] ys i x at = absurd (let f : None ≡ Some x = at in cc)
in_front (y ∷ xs) ys zero x at = at
in_front (y ∷ xs) ys (suc i) x at = in_front xs ys i x at

not_found_case : (b : Bool) (o p : Option ℕ) → (if b then Some 0 else onto o (λ k. Some (suc k))) ≡ None → (o ≡ None → p ≡ None) → (if b then Some 0 else onto p (λ k. Some (suc k))) ≡ None
not_found_case true o p h later = absurd (let f : Some 0 ≡ None = h in cc)
not_found_case false None p h later = ap (λ (q : Option ℕ). onto q (λ k. Some (suc k))) (later refl)
not_found_case false (Some n) p h later = absurd (let f : Some (suc n) ≡ None = h in cc)

pub not_found : {X : Type 0} (t : X → Bool) (xs ys : List X) → index_of t xs ≡ None → index_of t ys ≡ None → index_of t (xs ++ ys) ≡ None
not_found t [] ys h i = i
not_found t (x ∷ xs) ys h i = not_found_case (t x) (index_of t xs) (index_of t (xs ++ ys)) h (λ e. not_found t xs ys e i)

-- ---- all of a list

pub all_front : {X : Type 0} (P : X → Type 0) (xs ys : List X) → AllByRecursion P (xs ++ ys) → AllByRecursion P ys
all_front P [] ys h = h
all_front P (x ∷ xs) ys h = all_front P xs ys h.1

pub all_join : {X : Type 0} (P : X → Type 0) (xs ys : List X) → AllByRecursion P xs → AllByRecursion P ys → AllByRecursion P (xs ++ ys)
all_join P [] ys h i = i
all_join P (x ∷ xs) ys h i = (h.0, all_join P xs ys h.1 i)

pub all_along : {X : Type 0} (P Q : X → Type 0) → ((x : X) → P x → Q x) → (xs : List X) → AllByRecursion P xs → AllByRecursion Q xs
all_along P Q f [] h = tt
all_along P Q f (x ∷ xs) h = (f x h.0, all_along P Q f xs h.1)

pub all_parts : {X Y : Type 0} (P : X → Type 0) (Q : Y → Type 0) (f : X → List Y) → ((x : X) → P x → AllByRecursion Q (f x)) → (xs : List X) → AllByRecursion P xs → AllByRecursion Q (flat_map f xs)
all_parts P Q f g [] h = tt
all_parts P Q f g (x ∷ xs) h = all_join Q (f x) (flat_map f xs) (g x h.0) (all_parts P Q f g xs h.1)

pub below_all : (k : ℕ) (xs : List ℕ) → list_all (λ d. nat_lt d k) xs ≡ true → AllByRecursion (λ d. d < k) xs
below_all k [] h = tt
below_all k (x ∷ xs) h = (ltb-true x k (and_left (nat_lt x k) (list_all (λ d. nat_lt d k) xs) h), below_all k xs (and_right (nat_lt x k) (list_all (λ d. nat_lt d k) xs) h))

pub none_passes : {X : Type 0} (P : X → Type 0) (t : X → Bool) → ((x : X) → P x → t x ≡ false) → (xs : List X) → AllByRecursion P xs → list_any t xs ≡ false
none_passes P t f [] h = refl
none_passes P t f (x ∷ xs) h = ap (λ (b : Bool). b || list_any t xs) (f x h.0) ∙ none_passes P t f xs h.1

pub none_is_left : {X : Type 0} (t : X → Bool) → ((x : X) → t x ≡ false) → (xs : List X) → filter t xs ≡ []
none_is_left t f [] = refl
none_is_left t f (x ∷ xs) = ap (λ (b : Bool). if b then x ∷ filter t xs else filter t xs) (f x) ∙ none_is_left t f xs

pub nothing_of_all : {X Y : Type 0} (P : X → Type 0) (f : X → List Y) → ((x : X) → P x → f x ≡ []) → (xs : List X) → AllByRecursion P xs → flat_map f xs ≡ []
nothing_of_all P f g [] h = refl
nothing_of_all P f g (x ∷ xs) h = ap (λ (ys : List _). ys ++ flat_map f xs) (g x h.0) ∙ nothing_of_all P f g xs h.1

differ : (a b : ℕ) (t : Bool) → (a == b) ≡ t → a < b → t ≡ false
differ a b true e lt = absurd (let same = eqb-true a b e in omega arith)
differ a b false e lt = refl

pub not_among : (c : ℕ) (xs : List ℕ) → AllByRecursion (λ x. x < c) xs → is_among xs c ≡ false
not_among c xs h = none_passes (λ x. x < c) (λ x. x == c) (λ x lt. differ x c (x == c) refl lt) xs h

-- ---- upwards

-- where all that stand directly above have smaller numbers, so have all that are reached
pub reached_below : (above : ℕ → List ℕ) (most : ℕ) → ((k : ℕ) → k < most → AllByRecursion (λ d. d < k) (above k)) → (n k : ℕ) → k < most → AllByRecursion (λ d. d < suc k) (reached above n k)
reached_below above most h zero k lt = tt
reached_below above most h (suc n) k lt = (
  omega arith,
  all_parts (λ d. d < k) (λ d. d < suc k) (reached above n)
      (λ d less. all_along (λ x. x < suc d) (λ x. x < suc k) (λ x l. omega arith) (reached above n d) (reached_below above most h n d (omega arith)))
      (above k) (h k lt),
)
