-- Lists of numbers, each once, and sums over them.
use Rattle.std.proofs.Common.{◌≡◌, ◌≢◌, ℕ, zero, suc, ◌+◌, ◌-◌, ◌<◌, ◌≤◌, ◌⊎◌, Bool, true, false, cond, not, eqb, List, [], ◌∷◌, ◌++◌, length, get_or, set, take, drop, filter, sum_by, Contains, Some, refl, sym, ap, ◌∙◌, subst, inl, inr, arith}
use Rattle.std.proofs.lemmas.Bool.{cases_eq, cases_lt, eq-eqb, eqb-true, ne_eqb, cond-true, cond-false, or_cases, or_left, or_right, false≢true}
use Rattle.std.proofs.lemmas.List.{get_or_default, take-append-drop, take_more, length-take, get_or-take, get_or_append_left, get_or-append_right, get_or_past, get_or-set_other, length-append, length-drop, get_or_push, drop_at, drop-append-le}
use Rattle.std.proofs.lemmas.Option.{slice_get-get_or, slice_get_within, get_or_from_slice_get}
use Rattle.std.specs.Prelude.{slice_get}
use Rattle.std.proofs.lemmas.List.Sums.{sum_by-cons}
use Rattle.std.proofs.lemmas.List.Elements.{Contains-push, Contains-push_cases, Contains-append_left}
use Rattle.std.proofs.lemmas.List.Quantifiers.{all_pairs_push}
use Rattle.lists.specs.Members.{at_head, in_tail, cons_cases, nil_contains}
use Rattle.lists.specs.Numbers.{is_among}
use Rattle.number_sets.specs.Numbers.{with_number}
use Rattle.method_cache.specs.Regions.Region.{AreDistinct}

-- ---- what a list contains

pub from_among : (xs : List ℕ) (x : ℕ) → is_among xs x ≡ true → Contains xs x
from_among [] x h = absurd (false≢true h)
from_among (y ∷ ys) x h =
    elim (or_cases (eqb y x) (is_among ys x) h) [
      | inl same ↦ let P : ℕ → Type 0 = λ z. Contains (y ∷ ys) z in subst P (eqb-true y x same) (at_head y ys)
      | inr there ↦ in_tail y x ys (from_among ys x there)
    ]

pub among_from : (xs : List ℕ) (x : ℕ) → Contains xs x → is_among xs x ≡ true
among_from [] x c = absurd (nil_contains x c)
among_from (y ∷ ys) x c =
    elim (cons_cases y x ys c) [
      | inl same ↦ or_left (eqb y x) (is_among ys x) (eq-eqb y x same)
      | inr there ↦ or_right (eqb y x) (is_among ys x) (among_from ys x there)
    ]

-- a list with a number that it may have had
pub data IsWith (xs : List ℕ) (x : ℕ) (ys : List ℕ) : Type 0 where
  had : Contains xs x → ys ≡ xs → IsWith xs x ys
  added : (Contains xs x → ⊥) → ys ≡ xs ++ x ∷ [] → IsWith xs x ys

pub is_with : (xs : List ℕ) (x : ℕ) → IsWith xs x (with_number xs x)
is_with xs x =
    let P : Bool → Type 0 = λ b. (is_among xs x ≡ b) → IsWith xs x (cond b xs (xs ++ x ∷ [])) in
    elim (is_among xs x) as P [
      | true ↦ λ e. had (from_among xs x e) refl
      | false ↦ λ e. added (λ c. false≢true (sym e ∙ among_from xs x c)) refl
    ] refl

-- ---- each once

pub distinct_push : (xs : List ℕ) (x : ℕ) → AreDistinct xs → (Contains xs x → ⊥) → AreDistinct (xs ++ x ∷ [])
distinct_push xs x apart new' = all_pairs_push (λ a b. a ≢ b) xs x apart (λ k d lt same. new' (k, lt, get_or_default xs k x d lt ∙ same))

pub distinct_single : (x : ℕ) → AreDistinct (x ∷ [])
distinct_single x i j d less below = absurd (omega arith)

pub distinct_none : AreDistinct []
distinct_none i j d less below = absurd (omega arith)

-- ---- sums

-- the numbers of a list other than x
abbrev others : ℕ → List ℕ → List ℕ
others x ys = filter (λ y. not (eqb y x)) ys

others-same : (x y : ℕ) (ys : List ℕ) → y ≡ x → others x (y ∷ ys) ≡ others x ys
others-same x y ys same = cond-false (not (eqb y x)) (y ∷ others x ys) (others x ys) (ap not (eq-eqb y x same))

others-other : (x y : ℕ) (ys : List ℕ) → (y ≡ x → ⊥) → others x (y ∷ ys) ≡ y ∷ others x ys
others-other x y ys other = cond-true (not (eqb y x)) (y ∷ others x ys) (others x ys) (ap not (ne_eqb y x other))

others_contain : (x z : ℕ) (ys : List ℕ) → (z ≡ x → ⊥) → Contains ys z → Contains (others x ys) z
others_contain x z [] ne c = c
others_contain x z (y ∷ ys) ne c =
    let P : List ℕ → Type 0 = λ zs. Contains zs z in
    elim (cases_eq y x) [
      | inl same ↦
          elim (cons_cases y z ys c) [
            | inl here ↦ absurd (ne (sym here ∙ same))
            | inr there ↦ subst P (sym (others-same x y ys same)) (others_contain x z ys ne there)
          ]
      | inr other ↦
          elim (cons_cases y z ys c) [
            | inl here ↦ subst P (sym (others-other x y ys other)) (let Q : ℕ → Type 0 = λ w. Contains (y ∷ others x ys) w in subst Q here (at_head y (others x ys)))
            | inr there ↦ subst P (sym (others-other x y ys other)) (in_tail y z (others x ys) (others_contain x z ys ne there))
          ]
    ]

others_sum : (f : ℕ → ℕ) (x : ℕ) (ys : List ℕ) → sum_by f (others x ys) ≤ sum_by f ys
others_sum f x [] = omega arith
others_sum f x (y ∷ ys) =
    let P : List ℕ → Type 0 = λ zs. sum_by f zs ≤ sum_by f (y ∷ ys) in
    let later = others_sum f x ys in
    elim (cases_eq y x) [
      | inl same ↦ subst P (sym (others-same x y ys same)) (omega (arith, sum_by-cons f y ys))
      | inr other ↦ subst P (sym (others-other x y ys other)) (omega (arith, sum_by-cons f y ys, sum_by-cons f y (others x ys)))
    ]

sum_with_others : (f : ℕ → ℕ) (x : ℕ) (ys : List ℕ) → Contains ys x → f x + sum_by f (others x ys) ≤ sum_by f ys
sum_with_others f x [] c = absurd (nil_contains x c)
sum_with_others f x (y ∷ ys) c =
    let P : List ℕ → Type 0 = λ zs. f x + sum_by f zs ≤ sum_by f (y ∷ ys) in
    elim (cases_eq y x) [
      | inl same ↦ subst P (sym (others-same x y ys same)) (omega (arith, sum_by-cons f y ys, others_sum f x ys, ap f same))
      | inr other ↦
          elim (cons_cases y x ys c) [
            | inl here ↦ absurd (other here)
            | inr there ↦
                subst P (sym (others-other x y ys other)) (omega (arith, sum_by-cons f y ys, sum_by-cons f y (others x ys), sum_with_others f x ys there))
          ]
    ]

distinct_tail : (x : ℕ) (xs : List ℕ) → AreDistinct (x ∷ xs) → AreDistinct xs
distinct_tail x xs apart = λ i j d less below. apart (suc i) (suc j) d (omega arith) (omega arith)

first_apart : (x z : ℕ) (xs : List ℕ) → AreDistinct (x ∷ xs) → Contains xs z → z ≡ x → ⊥
first_apart x z xs apart c same = let below = c.1 in apart 0 (suc c.0) z (omega arith) (omega arith) (sym same ∙ sym c.2)

-- some of the numbers, each once, sum to no more than all
pub sum_of_part : (f : ℕ → ℕ) (xs ys : List ℕ) → AreDistinct xs → ((z : ℕ) → Contains xs z → Contains ys z) → sum_by f xs ≤ sum_by f ys
sum_of_part f [] ys apart within = omega arith
sum_of_part f (x ∷ xs) ys apart within =
    let later =
    sum_of_part f xs (others x ys) (distinct_tail x xs apart)
    (λ z c. others_contain x z ys (first_apart x z xs apart c) (within z (in_tail x z xs c)))
    in
    omega (arith, sum_by-cons f x xs, sum_with_others f x ys (within x (at_head x xs)))

-- a list has no more numbers than what they sum to, where each adds one at least
pub length-le-sum_by : (f : ℕ → ℕ) (xs : List ℕ) → ((z : ℕ) → Contains xs z → 0 < f z) → length xs ≤ sum_by f xs
length-le-sum_by f [] some = omega arith
length-le-sum_by f (x ∷ xs) some =
    let here = some x (at_head x xs) in
    omega (arith, sum_by-cons f x xs, length-le-sum_by f xs (λ z c. some z (in_tail x z xs c)))

pub sum_by-same : (f g : ℕ → ℕ) (xs : List ℕ) → ((z : ℕ) → f z ≡ g z) → sum_by f xs ≡ sum_by g xs
sum_by-same f g [] same = refl
sum_by-same f g (x ∷ xs) same =
    let h = same x in
    let later = sum_by-same f g xs same in
    omega (arith, sum_by-cons f x xs, sum_by-cons g x xs)

-- ---- the first items of a list

pub from_take : {X : Type 0} (n : ℕ) (xs : List X) (x : X) → Contains (take n xs) x → Contains xs x
from_take n xs x c =
    let P : List _ → Type 0 = λ ys. Contains ys x in
    subst P (take-append-drop n xs) (Contains-append_left (take n xs) (drop n xs) x c)

pub take_has : {X : Type 0} (xs : List X) (i : ℕ) (d : X) → i < length xs → Contains (take (i + 1) xs) (get_or xs i d)
take_has {X} xs i d lt =
    let P : List X → Type 0 = λ ys. Contains ys (get_or xs i d) in
    subst P (sym (take_more xs i d lt)) (Contains-push (take i xs) (get_or xs i d))

pub take_keeps : {X : Type 0} (xs : List X) (i : ℕ) (x : X) → i < length xs → Contains (take i xs) x → Contains (take (i + 1) xs) x
take_keeps {X} xs i x lt c =
    let P : List X → Type 0 = λ ys. Contains ys x in
    subst P (sym (take_more xs i x lt)) (Contains-append_left (take i xs) (get_or xs i x ∷ []) x c)

pub take_cases : {X : Type 0} (xs : List X) (i : ℕ) (d x : X) → i < length xs → Contains (take (i + 1) xs) x → Contains (take i xs) x ⊎ (get_or xs i d ≡ x)
take_cases {X} xs i d x lt c =
    let P : List X → Type 0 = λ ys. Contains ys x in
    Contains-push_cases (take i xs) (get_or xs i d) x (subst P (take_more xs i d lt) c)

-- the item at a place
pub from_get : {X : Type 0} (xs : List X) (i : ℕ) (x : X) → slice_get xs i ≡ Some x → Contains xs x
from_get xs i x at = (i, slice_get_within xs i x at, get_or_from_slice_get xs i x x at)

pub get_contained : {X : Type 0} (xs : List X) (x : X) → Contains xs x → (i : ℕ) × (slice_get xs i ≡ Some x)
get_contained xs x c = (c.0, slice_get-get_or xs c.0 x c.1 ∙ ap Some c.2)

pub from_taken : {X : Type 0} (n : ℕ) (xs : List X) (x : X) → Contains (take n xs) x → (j : ℕ) × (j < n) × (slice_get xs j ≡ Some x)
from_taken n xs x c =
    let short = length-take n xs in
    let lt = c.1 in
    let below : c.0 < n = omega arith in
    let within : c.0 < length xs = omega arith in (c.0, below, slice_get-get_or xs c.0 x within ∙ ap Some (sym (get_or-take n xs c.0 x below) ∙ c.2))

-- a default behind a list changes nothing
pub get_or-push_default : {X : Type 0} (xs : List X) (d : X) (n : ℕ) → get_or (xs ++ d ∷ []) n d ≡ get_or xs n d
get_or-push_default xs d n =
    elim (cases_lt n (length xs)) [
      | inl below ↦ get_or_append_left xs (d ∷ []) d n below
      | inr past ↦ get_or-append_right xs (d ∷ []) (length xs) n d refl past ∙ alone (n - length xs) ∙ sym (get_or_past xs n d past)
    ]
  where
    alone : (k : ℕ) → get_or (d ∷ []) k d ≡ d
    alone zero = refl
    alone (suc k) = refl

pub set_cases : (xs : List Bool) (i n : ℕ) → get_or (set xs i true) n false ≡ true → (n ≡ i) ⊎ (get_or xs n false ≡ true)
set_cases xs i n is = elim (cases_eq n i) [ inl same ↦ inl same | inr other ↦ inr (sym (get_or-set_other xs i n true false other) ∙ is) ]

-- the items from the first x on, if there is one
pub data IsFrom (x : ℕ) (xs ys : List ℕ) : Type 0 where
  nowhere : (Contains xs x → ⊥) → ys ≡ [] → IsFrom x xs ys
  from_place : (k : ℕ) → slice_get xs k ≡ Some x → ys ≡ drop k xs → IsFrom x xs ys

-- with one item more
pub from_more : (x : ℕ) (xs ys : List ℕ) (y : ℕ) → IsFrom x xs ys → (y ≡ x) ⊎ ((ys ≡ []) → ⊥) → IsFrom x (xs ++ y ∷ []) (ys ++ y ∷ [])
from_more x xs ys y (nowhere never none) o =
    elim o [
      | inl same ↦
          from_place (length xs)
          (slice_get-get_or (xs ++ y ∷ []) (length xs) x (omega (arith, length-append xs (y ∷ []))) ∙ ap Some (get_or_push xs y x (length xs) refl ∙ same))
          (ap (λ (zs : List ℕ). zs ++ y ∷ []) none ∙ sym (drop_at xs (y ∷ []) (length xs) refl))
      | inr some ↦ absurd (some none)
    ]
from_more x xs ys y (from_place k at are) o =
    let lt = slice_get_within xs k x at in
    from_place k
    (slice_get-get_or (xs ++ y ∷ []) k x (omega (arith, length-append xs (y ∷ []))) ∙ ap Some (get_or_append_left xs (y ∷ []) x k lt ∙ get_or_from_slice_get xs k x x at))
    (ap (λ (zs : List ℕ). zs ++ y ∷ []) are ∙ sym (drop-append-le k xs (y ∷ []) (omega arith)))

pub from_other : (x : ℕ) (xs ys : List ℕ) (y : ℕ) → IsFrom x xs ys → (y ≡ x → ⊥) → ys ≡ [] → IsFrom x (xs ++ y ∷ []) ys
from_other x xs ys y (nowhere never none) other e = nowhere (λ c. elim (Contains-push_cases xs y x c) [ inl there ↦ never there | inr same ↦ other same ]) none
from_other x xs ys y (from_place k at are) other e =
    let lt = slice_get_within xs k x at in
    let long = length-drop k xs in
    let short = ap length (sym are ∙ e) in
    absurd (omega arith)

pub from_all : (x : ℕ) (xs ys : List ℕ) → IsFrom x xs ys → Contains xs x → (k : ℕ) × (slice_get xs k ≡ Some x) × (ys ≡ drop k xs)
from_all x xs ys (nowhere never none) c = absurd (never c)
from_all x xs ys (from_place k at are) c = (k, at, are)
