-- The elements of a list, case by case.
use Rattle.std.proofs.Common.{◌≡◌, ℕ, ◌+◌, ◌<◌, ◌≤◌, Bool, true, false, cond, List, [], ◌∷◌, length, map, filter, Contains, refl, sym, ap, ◌∙◌, subst, inl, inr, arith}
use Rattle.std.specs.List.{range_with_len}
use Rattle.std.proofs.lemmas.Bool.{cases_Bool}
use Rattle.std.proofs.lemmas.List.FromFn.{length-range_with_len, get_or-range_with_len}
use Rattle.lists.specs.Members.{at_head, in_tail, cons_cases, nil_contains}

-- an element of a mapped list comes from one of the list
pub from_map : {X Y : Type 0} (f : X → Y) (xs : List X) (y : Y) → Contains (map f xs) y → (x : X) × Contains xs x × (f x ≡ y)
from_map f [] y c = absurd (nil_contains y c)
from_map f (x ∷ xs) y c =
    elim (cons_cases (f x) y (map f xs) c) [
      | inl same ↦ (x, at_head x xs, same)
      | inr there ↦ let r = from_map f xs y there in (r.0, in_tail x r.0 xs r.1, r.2)
    ]

pub kept_at : {X : Type 0} (p : X → Bool) (x : X) (xs : List X) → p x ≡ true → filter p (x ∷ xs) ≡ x ∷ filter p xs
kept_at p x xs h = ap (λ b. cond b (x ∷ filter p xs) (filter p xs)) h

pub dropped_at : {X : Type 0} (p : X → Bool) (x : X) (xs : List X) → p x ≡ false → filter p (x ∷ xs) ≡ filter p xs
dropped_at p x xs h = ap (λ b. cond b (x ∷ filter p xs) (filter p xs)) h

pub filter_contains : {X : Type 0} (p : X → Bool) (xs : List X) (x : X) → p x ≡ true → Contains xs x → Contains (filter p xs) x
filter_contains p [] x h c = c
filter_contains {X} p (y ∷ ys) x h c =
    let P : List X → Type 0 = λ zs. Contains zs x in
    elim (cons_cases y x ys c) [
      | inl same ↦
          let Q : X → Type 0 = λ z. Contains (y ∷ filter p ys) z in
          subst P (sym (kept_at p y ys (ap p same ∙ h))) (subst Q same (at_head y (filter p ys)))
      | inr there ↦
          let later = filter_contains p ys x h there in
          elim (cases_Bool (p y)) [
            | inl yes' ↦ subst P (sym (kept_at p y ys yes')) (in_tail y x (filter p ys) later)
            | inr no' ↦ subst P (sym (dropped_at p y ys no')) later
          ]
    ]

pub from_filter : {X : Type 0} (p : X → Bool) (xs : List X) (x : X) → Contains (filter p xs) x → Contains xs x × (p x ≡ true)
from_filter p [] x c = absurd (nil_contains x c)
from_filter {X} p (y ∷ ys) x c =
    let P : List X → Type 0 = λ zs. Contains zs x in
    elim (cases_Bool (p y)) [
      | inl yes' ↦
          elim (cons_cases y x (filter p ys) (subst P (kept_at p y ys yes') c)) [
            | inl same ↦ (let Q : X → Type 0 = λ z. Contains (y ∷ ys) z in subst Q same (at_head y ys), ap p (sym same) ∙ yes')
            | inr there ↦ let r = from_filter p ys x there in (in_tail y x ys r.0, r.1)
          ]
      | inr no' ↦ let r = from_filter p ys x (subst P (dropped_at p y ys no') c) in (in_tail y x ys r.0, r.1)
    ]

-- two filters in a row are one
pub filter-filter : {X : Type 0} (p q r : X → Bool) → ((x : X) → q x ≡ true → p x ≡ r x) → ((x : X) → q x ≡ false → r x ≡ false) → (xs : List X) → filter p (filter q xs) ≡ filter r xs
filter-filter p q r kept left [] = refl
filter-filter {X} p q r kept left (x ∷ xs) =
    let rest = filter-filter p q r kept left xs in
    elim (cases_Bool (q x)) [
      | inl yes' ↦
          ap (filter p) (kept_at q x xs yes')
          ∙ ap (λ b. cond b (x ∷ filter p (filter q xs)) (filter p (filter q xs))) (kept x yes')
          ∙ ap (λ zs. cond (r x) (x ∷ zs) zs) rest
      | inr no' ↦ ap (filter p) (dropped_at q x xs no') ∙ rest ∙ sym (dropped_at r x xs (left x no'))
    ]

pub filter_all : {X : Type 0} (p : X → Bool) → ((x : X) → p x ≡ true) → (xs : List X) → xs ≡ filter p xs
filter_all p h [] = refl
filter_all p h (x ∷ xs) = ap (λ ys. x ∷ ys) (filter_all p h xs) ∙ sym (kept_at p x xs (h x))

-- two filters that agree on the elements of a list keep the same of it
pub filter_alike : {X : Type 0} (p q : X → Bool) (xs : List X) → ((x : X) → Contains xs x → p x ≡ q x) → filter p xs ≡ filter q xs
filter_alike p q [] h = refl
filter_alike p q (x ∷ xs) h =
    let rest = filter_alike p q xs (λ y c. h y (in_tail x y xs c)) in
    ap (λ b. cond b (x ∷ filter p xs) (filter p xs)) (h x (at_head x xs)) ∙ ap (λ ys. cond (q x) (x ∷ ys) ys) rest

pub range_contains : (n x : ℕ) → x < n → Contains (range_with_len 0 n) x
range_contains n x below =
    (x, omega (arith, length-range_with_len 0 n), get_or-range_with_len 0 n x x below ∙ (let e : 0 + x ≡ x = omega arith in e))

pub from_range : (n x : ℕ) → Contains (range_with_len 0 n) x → x < n
from_range n x c =
    let below = c.1 in
    let at = c.2 in
    let short : c.0 < n = omega (arith, length-range_with_len 0 n) in
    omega (arith, get_or-range_with_len 0 n c.0 x short)

pub filter_at_most : {X : Type 0} (p : X → Bool) (xs : List X) → length (filter p xs) ≤ length xs
filter_at_most p [] = omega arith
filter_at_most p (x ∷ xs) =
    let rest = filter_at_most p xs in
    elim (cases_Bool (p x)) [
      | inl yes' ↦ let e = ap length (kept_at p x xs yes') in omega arith
      | inr no' ↦ let e = ap length (dropped_at p x xs no') in omega arith
    ]

-- a filter that lets less pass keeps no more
pub less_kept : {X : Type 0} (p q : X → Bool) (xs : List X) → ((y : X) → q y ≡ true → p y ≡ true) → length (filter q xs) ≤ length (filter p xs)
less_kept p q [] less = omega arith
less_kept p q (y ∷ ys) less =
    let rest = less_kept p q ys less in
    elim (cases_Bool (q y)) [
      | inl yes' ↦ let e = ap length (kept_at q y ys yes') in let f = ap length (kept_at p y ys (less y yes')) in omega arith
      | inr no' ↦
          let e = ap length (dropped_at q y ys no') in
          elim (cases_Bool (p y)) [
            | inl too' ↦ let f = ap length (kept_at p y ys too') in omega arith
            | inr fail' ↦ let f = ap length (dropped_at p y ys fail') in omega arith
          ]
    ]

-- a filter that lets less pass, and not x, keeps fewer
pub fewer_kept : {X : Type 0} (p q : X → Bool) (xs : List X) (x : X) → ((y : X) → q y ≡ true → p y ≡ true) → p x ≡ true → q x ≡ false → Contains xs x → length (filter q xs) < length (filter p xs)
fewer_kept p q [] x less passes fails has = absurd (nil_contains x has)
fewer_kept p q (y ∷ ys) x less passes fails has =
    elim (cons_cases y x ys has) [
      | inl same ↦
          let e = ap length (dropped_at q y ys (ap q same ∙ fails)) in
          let f = ap length (kept_at p y ys (ap p same ∙ passes)) in
          let most = less_kept p q ys less in
          omega arith
      | inr there ↦
          let rest = fewer_kept p q ys x less passes fails there in
          elim (cases_Bool (q y)) [
            | inl yes' ↦ let e = ap length (kept_at q y ys yes') in let f = ap length (kept_at p y ys (less y yes')) in omega arith
            | inr no' ↦
                let e = ap length (dropped_at q y ys no') in
                elim (cases_Bool (p y)) [
                  | inl too' ↦ let f = ap length (kept_at p y ys too') in omega arith
                  | inr fail' ↦ let f = ap length (dropped_at p y ys fail') in omega arith
                ]
          ]
    ]

-- a filter that lets less of a list pass keeps no more of it
pub less_within : (p q : ℕ → Bool) (xs : List ℕ) → ((y : ℕ) → Contains xs y → q y ≡ true → p y ≡ true) → length (filter q xs) ≤ length (filter p xs)
less_within p q [] less = omega arith
less_within p q (y ∷ ys) less =
    let rest = less_within p q ys (λ z has. less z (in_tail y z ys has)) in
    elim (cases_Bool (q y)) [
      | inl yes' ↦ let e = ap length (kept_at q y ys yes') in let f = ap length (kept_at p y ys (less y (at_head y ys) yes')) in omega arith
      | inr no' ↦
          let e = ap length (dropped_at q y ys no') in
          elim (cases_Bool (p y)) [
            | inl too' ↦ let f = ap length (kept_at p y ys too') in omega arith
            | inr fail' ↦ let f = ap length (dropped_at p y ys fail') in omega arith
          ]
    ]
