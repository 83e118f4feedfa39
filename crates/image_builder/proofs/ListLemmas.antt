-- Lists that are made item by item.
use Rattle.std.proofs.Common.{◌≡◌, ℕ, zero, suc, ◌+◌, ◌<◌, ◌≤◌, inl, inr, List, [], ◌∷◌, ◌++◌, Option, Some, None, map, take, length, length-append, get_or, sum, append-nil, append_assoc, refl, sym, ap, ◌∙◌, subst, arith}
use Rattle.std.specs.Prelude.{◌⊎◌, slice_get, sum_by}
use Rattle.std.specs.List.{flat_map, filter_map, cons_option, range_with_len, enumerate_from}
use Rattle.std.proofs.lemmas.Grind.{flat_map-append}
use Rattle.std.proofs.lemmas.List.{map-append, take-map}
use Rattle.std.proofs.lemmas.List.FromFn.{map-range_with_len_more}
use Rattle.std.proofs.lemmas.List.Elements.{filter_map-append}
use Rattle.std.proofs.lemmas.List.Sums.{sum-map}
use Rattle.std.specs.Option.{option_to_list}
use Rattle.std.proofs.lemmas.Option.{slice_get-get_or}
use Rattle.lists.proofs.Lemmas.{none≢some, some_same}

-- ---- an item

pub get_below : {A : Type 0} (xs : List A) (i : ℕ) → i < length xs → (x : A) × (slice_get xs i ≡ Some x)
get_below [] i lt = absurd (omega (arith, lt))
get_below (x ∷ xs) zero lt = (x, refl)
get_below (x ∷ xs) (suc i) lt = get_below xs i (omega (arith, lt))

-- ---- one more item

pub take_some : {A : Type 0} (xs : List A) (i : ℕ) (x : A) → slice_get xs i ≡ Some x → take (i + 1) xs ≡ take i xs ++ x ∷ []
take_some {A} xs i x h = let next : i + 1 ≡ suc i = omega arith in ap (λ n. take n xs) next ∙ by_item xs i h
  where
    by_item : (xs : List A) (i : ℕ) → slice_get xs i ≡ Some x → take (suc i) xs ≡ take i xs ++ x ∷ []
    by_item [] i h = absurd (none≢some x h)
    by_item (y ∷ ys) zero h = ap (λ z. z ∷ []) (some_same y x h)
    by_item (y ∷ ys) (suc i) h = ap (λ zs. y ∷ zs) (by_item ys i h)

take_nothing : {A : Type 0} (n : ℕ) → take {A = A} n [] ≡ []
take_nothing zero = refl
take_nothing (suc n) = refl

pub take_past : {A : Type 0} (xs : List A) (n : ℕ) → slice_get xs n ≡ None → take n xs ≡ xs
take_past [] n h = take_nothing n
take_past (x ∷ xs) zero h = absurd (none≢some x (sym h))
take_past (x ∷ xs) (suc n) h = ap (λ ys. x ∷ ys) (take_past xs n h)

pub take_all : {A : Type 0} (xs : List A) (n : ℕ) → length xs ≤ n → take n xs ≡ xs
take_all [] n h = take_nothing n
take_all (x ∷ xs) zero h = absurd (omega (arith, h))
take_all (x ∷ xs) (suc n) h = ap (λ ys. x ∷ ys) (take_all xs n (omega (arith, h)))

pub take_whole : {A : Type 0} (xs : List A) (n : ℕ) → length xs ≡ n → take n xs ≡ xs
take_whole [] zero h = refl
take_whole [] (suc n) h = refl
take_whole (x ∷ xs) zero h = absurd (omega (arith, h))
take_whole (x ∷ xs) (suc n) h = ap (λ ys. x ∷ ys) (take_whole xs n (omega (arith, h)))

pub range_at : (a n c : ℕ) → c < n → slice_get (range_with_len a n) c ≡ Some (a + c)
range_at a zero c lt = absurd (omega (arith, lt))
range_at a (suc n) zero lt = let same : a ≡ a + 0 = omega arith in ap Some same
range_at a (suc n) (suc c) lt = let same : a + 1 + c ≡ a + suc c = omega arith in range_at (a + 1) n c (omega (arith, lt)) ∙ ap Some same

pub range_first : (n c : ℕ) → c < n → slice_get (range_with_len 0 n) c ≡ Some c
range_first n c lt = let same : 0 + c ≡ c = omega arith in range_at 0 n c lt ∙ ap Some same

enumerated_at : {A : Type 0} (xs : List A) (n i : ℕ) (x : A) → slice_get xs i ≡ Some x → slice_get (enumerate_from n xs) i ≡ Some (n + i, x)
enumerated_at [] n i x h = absurd (none≢some x h)
enumerated_at (y ∷ xs) n zero x h = let same : n ≡ n + 0 = omega arith in ap (λ k. Some (k, y)) same ∙ ap (λ z. Some (n + 0, z)) (some_same y x h)
enumerated_at (y ∷ xs) n (suc i) x h = let same : n + 1 + i ≡ n + suc i = omega arith in enumerated_at xs (n + 1) i x h ∙ ap (λ k. Some (k, x)) same

pub enumerated_first : {A : Type 0} (xs : List A) (i : ℕ) (x : A) → slice_get xs i ≡ Some x → slice_get (enumerate_from 0 xs) i ≡ Some (i, x)
enumerated_first xs i x h = let same : 0 + i ≡ i = omega arith in enumerated_at xs 0 i x h ∙ ap (λ k. Some (k, x)) same

-- ---- behind other words

pub flat_more : {A B : Type 0} (f : A → List B) (xs : List A) (i : ℕ) (x : A) (before old new : List B) → slice_get xs i ≡ Some x → old ≡ before ++ flat_map f (take i xs) → new ≡ old ++ f x
    → new ≡ before ++ flat_map f (take (i + 1) xs)
flat_more f xs i x before old new at h e =
    e
    ∙ (ap (λ ys. ys ++ f x) h
    ∙ (append_assoc before (flat_map f (take i xs)) (f x)
    ∙ ap (λ ys. before ++ ys) (sym (ap (flat_map f) (take_some xs i x at) ∙ (flat_map-append f (take i xs) (x ∷ []) ∙ ap (λ ys. flat_map f (take i xs) ++ ys) (append-nil (f x)))))))

pub flat_at : {A B : Type 0} (f : A → List B) (xs : List A) (i : ℕ) (d : A) (before old new : List B) → i < length xs → old ≡ before ++ flat_map f (take i xs) → new ≡ old ++ f (get_or xs i d)
    → new ≡ before ++ flat_map f (take (i + 1) xs)
flat_at f xs i d before old new lt h e = flat_more f xs i (get_or xs i d) before old new (slice_get-get_or xs i d lt) h e

kept_case : {A B : Type 0} (g : A → List B) (o : Option A) → flat_map g (option_to_list o) ≡ flat_map g (cons_option o [])
kept_case g None = refl
kept_case g (Some x) = refl

pub flat_kept : {A B C : Type 0} (g : B → List C) (f : A → Option B) (xs : List A) (i : ℕ) (x : A) (before old new : List C) → slice_get xs i ≡ Some x → old ≡ before ++ flat_map g (filter_map f (take i xs))
    → new ≡ old ++ flat_map g (option_to_list (f x)) → new ≡ before ++ flat_map g (filter_map f (take (i + 1) xs))
flat_kept g f xs i x before old new at h e =
    let done = filter_map f (take i xs) in
    e
    ∙ (ap (λ ys. ys ++ flat_map g (option_to_list (f x))) h
    ∙ (append_assoc before (flat_map g done) (flat_map g (option_to_list (f x)))
    ∙ ap (λ ys. before ++ ys) (ap (λ ys. flat_map g done ++ ys) (kept_case g (f x))
    ∙ (sym (flat_map-append g done (cons_option (f x) []))
    ∙ ap (flat_map g) (sym (ap (filter_map f) (take_some xs i x at) ∙ filter_map-append f (take i xs) (x ∷ [])))))))

pub flat_none : {A B : Type 0} (f : A → List B) (xs : List A) (before : List B) → before ≡ before ++ flat_map f (take 0 xs)
flat_none f xs before = sym (append-nil before)

pub flat_whole : {A B : Type 0} (f : A → List B) (xs : List A) (n : ℕ) (before new : List B) → length xs ≡ n → new ≡ before ++ flat_map f (take n xs) → new ≡ before ++ flat_map f xs
flat_whole f xs n before new h e = e ∙ ap (λ ys. before ++ flat_map f ys) (take_whole xs n h)

pub map_more : {A B : Type 0} (f : A → B) (xs : List A) (i : ℕ) (x : A) (before old new : List B) → slice_get xs i ≡ Some x → old ≡ before ++ map f (take i xs) → new ≡ old ++ f x ∷ []
    → new ≡ before ++ map f (take (i + 1) xs)
map_more f xs i x before old new at h e =
    e
    ∙ (ap (λ ys. ys ++ f x ∷ []) h
    ∙ (append_assoc before (map f (take i xs)) (f x ∷ [])
    ∙ ap (λ ys. before ++ ys) (sym (ap (map f) (take_some xs i x at) ∙ map-append f (take i xs) (x ∷ [])))))

pub map_whole : {A B : Type 0} (f : A → B) (xs : List A) (n : ℕ) (before new : List B) → length xs ≡ n → new ≡ before ++ map f (take n xs) → new ≡ before ++ map f xs
map_whole f xs n before new h e = e ∙ ap (λ ys. before ++ map f ys) (take_whole xs n h)

pub range_more : {B : Type 0} (f : ℕ → B) (n : ℕ) (before old new : List B) → old ≡ before ++ map f (range_with_len 0 n) → new ≡ old ++ f n ∷ [] → new ≡ before ++ map f (range_with_len 0 (n + 1))
range_more f n before old new h e =
    e
    ∙ (ap (λ ys. ys ++ f n ∷ []) h
    ∙ (append_assoc before (map f (range_with_len 0 n)) (f n ∷ [])
    ∙ ap (λ ys. before ++ ys) (sym (map-range_with_len_more f 0 n n (omega arith)))))

range_suc : (a n : ℕ) → range_with_len a (suc n) ≡ range_with_len a n ++ (a + n) ∷ []
range_suc a zero = let same : a ≡ a + 0 = omega arith in ap (λ k. k ∷ []) same
range_suc a (suc n) =
    let same : a + 1 + n ≡ a + suc n = omega arith in
    ap (λ xs. a ∷ xs) (range_suc (a + 1) n ∙ ap (λ k. range_with_len (a + 1) n ++ k ∷ []) same)

pub range_flat : {B : Type 0} (f : ℕ → List B) (n : ℕ) (before old new : List B) → old ≡ before ++ flat_map f (range_with_len 0 n) → new ≡ old ++ f n → new ≡ before ++ flat_map f (range_with_len 0 (n + 1))
range_flat f n before old new h e =
    let next : n + 1 ≡ suc n = omega arith in
    let same : 0 + n ≡ n = omega arith in
    let range = ap (range_with_len 0) next ∙ (range_suc 0 n ∙ ap (λ k. range_with_len 0 n ++ k ∷ []) same) in
    e
    ∙ (ap (λ ys. ys ++ f n) h
    ∙ (append_assoc before (flat_map f (range_with_len 0 n)) (f n)
    ∙ ap (λ ys. before ++ ys) (sym (ap (flat_map f) range ∙ (flat_map-append f (range_with_len 0 n) (n ∷ []) ∙ ap (λ ys. flat_map f (range_with_len 0 n) ++ ys) (append-nil (f n)))))))

-- ---- from nothing on

pub mapped_more : {A B : Type 0} (f : A → B) (xs : List A) (i : ℕ) (x : A) (old new : List B) → slice_get xs i ≡ Some x → old ≡ map f (take i xs) → new ≡ old ++ f x ∷ [] → new ≡ map f (take (i + 1) xs)
mapped_more f xs i x old new at h e = map_more f xs i x [] old new at h e

pub kept_more : {A B C : Type 0} (g : B → C) (f : A → Option B) (xs : List A) (i : ℕ) (x : A) (old new : List C) → slice_get xs i ≡ Some x → old ≡ map g (filter_map f (take i xs))
    → new ≡ old ++ map g (cons_option (f x) []) → new ≡ map g (filter_map f (take (i + 1) xs))
kept_more g f xs i x old new at h e =
    e
    ∙ (ap (λ ys. ys ++ map g (cons_option (f x) [])) h
    ∙ (sym (map-append g (filter_map f (take i xs)) (cons_option (f x) []))
    ∙ ap (map g) (sym (ap (filter_map f) (take_some xs i x at) ∙ filter_map-append f (take i xs) (x ∷ [])))))

-- ---- sums

pub sum_taken : {A : Type 0} (f : A → ℕ) (xs : List A) (i : ℕ) → sum (take i (map f xs)) ≡ sum_by f (take i xs)
sum_taken f xs i = ap sum (take-map f i xs) ∙ sum-map f (take i xs)

-- ---- what holds of each

pub last_get : {A : Type 0} (xs : List A) (x y : A) (i : ℕ) → slice_get (xs ++ x ∷ []) i ≡ Some y → (slice_get xs i ≡ Some y) ⊎ ((i ≡ length xs) × (x ≡ y))
last_get [] x y zero h = inr (refl, some_same x y h)
last_get [] x y (suc i) h = absurd (none≢some y h)
last_get (z ∷ xs) x y zero h = inl h
last_get (z ∷ xs) x y (suc i) h = elim (last_get xs x y i h) [ inl e ↦ inl e | inr e ↦ inr (ap suc e.0, e.1) ]

pub record AllTo {A : Type 0} (P : ℕ → A → Type 0) (many : ℕ) (xs : List A) : Type 0 where
  pub count : length xs ≡ many
  pub each : (i : ℕ) (x : A) → slice_get xs i ≡ Some x → P i x

pub all_none : {A : Type 0} (P : ℕ → A → Type 0) (xs : List A) → xs ≡ [] → AllTo P 0 xs
all_none P xs h = record { count = ap length h; each = λ i x e. absurd (none≢some x (sym (ap (λ ys. slice_get ys i) h) ∙ e)) }

pub all_more : {A : Type 0} (P : ℕ → A → Type 0) (n : ℕ) (old new : List A) (x : A) → AllTo P n old → new ≡ old ++ x ∷ [] → P n x → AllTo P (n + 1) new
all_more {A} P n old new x all e p =
    let long = ap length e ∙ length-append old (x ∷ []) in
    let count = all.count in
    record {
      count = omega (arith, long, count);
      each = λ i y h. elim (last_get old x y i (ap (λ xs. slice_get xs i) (sym e) ∙ h)) [
        | inl f ↦ all.each i y f
        | inr f ↦ subst (λ k. P k y) (sym (f.0 ∙ count)) (subst (λ z. P n z) f.1 p)
      ];
    }
