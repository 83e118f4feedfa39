-- What lists contain that are made of others.
use Rattle.std.proofs.Common.{arith, ◌≡◌, ℕ, zero, suc, ◌+◌, ◌<◌, Bool, true, false, cond, List, [], ◌∷◌, ◌++◌, map, length, get_or, take, Contains, Option, Some, None, refl, sym, ap, ◌∙◌, subst, inl, inr, append-nil}
use Rattle.std.specs.Prelude.{slice_get}
use Rattle.std.specs.List.{filter, filter_map, cons_option}
use Rattle.std.proofs.lemmas.List.{take_more}
use Rattle.std.proofs.lemmas.List.Elements.{filter_map-append}
use Rattle.std.proofs.lemmas.Option.{slice_get-get_or, slice_get_within, get_or_from_slice_get}
use Rattle.lists.specs.Members.{at_head, in_tail, cons_cases, nil_contains}

-- ---- by place

pub contains_get : {X : Type 0} (xs : List X) (k : ℕ) (x : X) → slice_get xs k ≡ Some x → Contains xs x
contains_get xs k x h = (k, slice_get_within xs k x h, get_or_from_slice_get xs k x x h)

pub contains_read : {X : Type 0} (xs : List X) (k : ℕ) (d : X) → k < length xs → Contains xs (get_or xs k d)
contains_read xs k d lt = (k, lt, get_or_from_slice_get xs k (get_or xs k d) (get_or xs k d) (slice_get-get_or xs k d lt))

-- ---- lists one behind another

pub in_front : {X : Type 0} (xs ys : List X) (k : ℕ) → k < length xs → slice_get (xs ++ ys) k ≡ slice_get xs k
in_front [] ys k h = absurd (omega (arith, h))
in_front (x ∷ xs) ys zero h = refl
in_front (x ∷ xs) ys (suc k) h = in_front xs ys k (omega (arith, h))

pub last : {X : Type 0} (xs : List X) (x : X) → slice_get (xs ++ x ∷ []) (length xs) ≡ Some x
last [] x = refl
last (y ∷ xs) x = last xs x

-- ---- what a partial function gives of the items

found_case : {X Y : Type 0} (f : X → Option Y) (x : X) (xs : List X) (y : Y) (o : Option Y) → f x ≡ o → (Contains (filter_map f xs) y → (z : X) × Contains xs z × (f z ≡ Some y)) → Contains (cons_option o (filter_map f xs)) y
    → (z : X) × Contains (x ∷ xs) z × (f z ≡ Some y)
found_case f x xs y None e later c = let r = later c in (r.0, in_tail x r.0 xs r.1, r.2)
found_case f x xs y (Some w) e later c =
    elim (cons_cases w y (filter_map f xs) c) [
      | inl same ↦ (x, at_head x xs, e ∙ ap Some same)
      | inr there ↦ let r = later there in (r.0, in_tail x r.0 xs r.1, r.2)
    ]

pub filter_map_found : {X Y : Type 0} (f : X → Option Y) (xs : List X) (y : Y) → Contains (filter_map f xs) y → (x : X) × Contains xs x × (f x ≡ Some y)
filter_map_found f [] y c = absurd (nil_contains y c)
filter_map_found f (x ∷ xs) y c = found_case f x xs y (f x) refl (filter_map_found f xs y) c

option_in : {Y : Type 0} (o : Option Y) (ys : List Y) (y : Y) → Contains ys y → Contains (cons_option o ys) y
option_in None ys y c = c
option_in (Some x) ys y c = in_tail x y ys c

pub filter_map_in : {X Y : Type 0} (f : X → Option Y) (xs : List X) (x : X) (y : Y) → Contains xs x → f x ≡ Some y → Contains (filter_map f xs) y
filter_map_in f [] x y c e = absurd (nil_contains x c)
filter_map_in {X = X} {Y = Y} f (z ∷ xs) x y c e =
    elim (cons_cases z x xs c) [
      | inl same ↦ subst (λ (o : Option Y). Contains (cons_option o (filter_map f xs)) y) (sym (ap f same ∙ e)) (at_head y (filter_map f xs))
      | inr there ↦ option_in (f z) (filter_map f xs) y (filter_map_in f xs x y there e)
    ]

pub map_found : {X Y : Type 0} (f : X → Y) (xs : List X) (y : Y) → Contains (map f xs) y → (x : X) × Contains xs x × (f x ≡ y)
map_found f [] y c = absurd (nil_contains y c)
map_found f (x ∷ xs) y c =
    elim (cons_cases (f x) y (map f xs) c) [
      | inl same ↦ (x, at_head x xs, same)
      | inr there ↦ let found = map_found f xs y there in (found.0, in_tail x found.0 xs found.1, found.2)
    ]

-- ---- what passes a test

kept_case : {X : Type 0} (t : X → Bool) (x : X) (xs : List X) (y : X) (b : Bool) → t x ≡ b → (Contains (filter t xs) y → Contains xs y × (t y ≡ true)) → Contains (cond b (x ∷ filter t xs) (filter t xs)) y
    → Contains (x ∷ xs) y × (t y ≡ true)
kept_case t x xs y false e later c = let r = later c in (in_tail x y xs r.0, r.1)
kept_case {X} t x xs y true e later c =
    elim (cons_cases x y (filter t xs) c) [
      | inl same ↦ (subst (λ (z : X). Contains (x ∷ xs) z) same (at_head x xs), ap t (sym same) ∙ e)
      | inr there ↦ let r = later there in (in_tail x y xs r.0, r.1)
    ]

pub filter_found : {X : Type 0} (t : X → Bool) (xs : List X) (y : X) → Contains (filter t xs) y → Contains xs y × (t y ≡ true)
filter_found t [] y c = absurd (nil_contains y c)
filter_found t (x ∷ xs) y c = kept_case t x xs y (t x) refl (filter_found t xs y) c

in_case : {X : Type 0} (x y : X) (xs : List X) (b : Bool) → Contains xs y → Contains (cond b (x ∷ xs) xs) y
in_case x y xs false c = c
in_case x y xs true c = in_tail x y xs c

pub filter_in : {X : Type 0} (t : X → Bool) (xs : List X) (y : X) → Contains xs y → t y ≡ true → Contains (filter t xs) y
filter_in t [] y c e = absurd (nil_contains y c)
filter_in {X} t (x ∷ xs) y c e =
    elim (cons_cases x y xs c) [
      | inl same ↦ subst (λ (b : Bool). Contains (cond b (x ∷ filter t xs) (filter t xs)) y) (sym (ap t same ∙ e)) (subst (λ (z : X). Contains (x ∷ filter t xs) z) same (at_head x (filter t xs)))
      | inr there ↦ in_case x y (filter t xs) (t x) (filter_in t xs y there e)
    ]

-- ---- one item after another

taken : {X Y : Type 0} (f : X → Option Y) (xs : List X) (i : ℕ) (x d : X) (ys : List Y) → i < length xs → x ≡ get_or xs i d → ys ≡ filter_map f (take i xs) → ys ++ cons_option (f x) [] ≡ filter_map f (take (i + 1) xs)
taken f xs i x d ys lt is so_far =
    ap (λ zs. zs ++ cons_option (f x) []) so_far
    ∙ (sym (filter_map-append f (take i xs) (x ∷ [])) ∙ ap (λ z. filter_map f (take i xs ++ z ∷ [])) is ∙ ap (filter_map f) (sym (take_more xs i d lt)))

pub next_some : {X Y : Type 0} (f : X → Option Y) (xs : List X) (i : ℕ) (x d : X) (ys zs : List Y) (y : Y) → i < length xs → x ≡ get_or xs i d → ys ≡ filter_map f (take i xs) → f x ≡ Some y → zs ≡ ys ++ y ∷ []
    → zs ≡ filter_map f (take (i + 1) xs)
next_some f xs i x d ys zs y lt is so_far gives pushed = pushed ∙ (ap (λ o. ys ++ cons_option o []) (sym gives) ∙ taken f xs i x d ys lt is so_far)

pub next_none : {X Y : Type 0} (f : X → Option Y) (xs : List X) (i : ℕ) (x d : X) (ys : List Y) → i < length xs → x ≡ get_or xs i d → ys ≡ filter_map f (take i xs) → f x ≡ None → ys ≡ filter_map f (take (i + 1) xs)
next_none f xs i x d ys lt is so_far gives = sym (append-nil ys) ∙ (ap (λ o. ys ++ cons_option o []) (sym gives) ∙ taken f xs i x d ys lt is so_far)
