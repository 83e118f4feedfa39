-- The first item that passes a test, in lists to which others are added.
use Rattle.std.proofs.Common.{◌≡◌, ℕ, suc, ◌+◌, Bool, true, false, ◌||◌, List, [], ◌∷◌, ◌++◌, length, Option, Some, None, refl, sym, ap, ◌∙◌, arith}
use Rattle.std.specs.Prelude.{is_some, if◌then◌else◌}
use Rattle.std.specs.Option.{option_map, option_or}
use Rattle.std.specs.List.{list_any, filter}
use Rattle.std.proofs.lemmas.Bool.{true≢false, false≢true, or_parts, or_from}
use Rattle.lists.specs.Lists.{onto, index_of}
use Rattle.lists.proofs.Lemmas.{index_append}
use Rattle.program_tables.specs.Lists.{with_item, with_items}

pub bool_same : (x y : Bool) → (x ≡ true → y ≡ true) → (y ≡ true → x ≡ true) → x ≡ y
bool_same true y f g = sym (f refl)
bool_same false true f g = g refl
bool_same false false f g = refl

pub or_none : {A : Type 0} (o : Option A) → option_or o None ≡ o
or_none None = refl
or_none (Some x) = refl

-- ---- one list behind another

none_before : (n : ℕ) (o : Option ℕ) → n ≡ 0 → o ≡ option_map (λ k. n + k) o
none_before n None h = refl
none_before n (Some k) h = ap Some (omega (arith, h))

later_both : (n : ℕ) (o p : Option ℕ) → onto (option_or o (option_map (λ k. n + k) p)) (λ k. Some (suc k)) ≡ option_or (onto o (λ k. Some (suc k))) (option_map (λ k. suc n + k) p)
later_both n (Some k) p = refl
later_both n None None = refl
later_both n None (Some k) = ap Some (omega arith)

both_case : {A : Type 0} (t : A → Bool) (xs ys : List A) (b : Bool) → index_of t (xs ++ ys) ≡ option_or (index_of t xs) (option_map (λ k. length xs + k) (index_of t ys))
    → (if b then Some 0 else onto (index_of t (xs ++ ys)) (λ k. Some (suc k))) ≡ option_or (if b then Some 0 else onto (index_of t xs) (λ k. Some (suc k))) (option_map (λ k. suc (length xs) + k) (index_of t ys))
both_case t xs ys true h = refl
both_case t xs ys false h = ap (λ o. onto o (λ k. Some (suc k))) h ∙ later_both (length xs) (index_of t xs) (index_of t ys)

pub index_both : {A : Type 0} (t : A → Bool) (xs ys : List A) → index_of t (xs ++ ys) ≡ option_or (index_of t xs) (option_map (λ k. length xs + k) (index_of t ys))
index_both t [] ys = none_before 0 (index_of t ys) refl
index_both t (x ∷ xs) ys = both_case t xs ys (t x) (index_both t xs ys)

-- ---- whether there is one

some_raised : (o : Option ℕ) → is_some o ≡ is_some (onto o (λ k. Some (suc k)))
some_raised None = refl
some_raised (Some k) = refl

any_case : {A : Type 0} (t : A → Bool) (xs : List A) (b : Bool) → list_any t xs ≡ is_some (index_of t xs) → (b || list_any t xs) ≡ is_some (if b then Some 0 else onto (index_of t xs) (λ k. Some (suc k)))
any_case t xs true h = refl
any_case t xs false h = h ∙ some_raised (index_of t xs)

pub any_index : {A : Type 0} (t : A → Bool) (xs : List A) → list_any t xs ≡ is_some (index_of t xs)
any_index t [] = refl
any_index t (x ∷ xs) = any_case t xs (t x) (any_index t xs)

pub some_is : {A : Type 0} (o : Option A) → is_some o ≡ true → (x : A) × (o ≡ Some x)
some_is None h = absurd (false≢true h)
some_is (Some x) h = (x, refl)

pub none_is : {A : Type 0} (o : Option A) → is_some o ≡ false → o ≡ None
none_is None h = refl
none_is (Some x) h = absurd (true≢false h)

pub index_none : {A : Type 0} (t : A → Bool) (xs : List A) → list_any t xs ≡ false → index_of t xs ≡ None
index_none t xs h = none_is (index_of t xs) (sym (any_index t xs) ∙ h)

-- ---- two tests that say the same

pub index_same : {A : Type 0} (t u : A → Bool) (xs : List A) → ((x : A) → t x ≡ u x) → index_of t xs ≡ index_of u xs
index_same t u [] h = refl
index_same t u (x ∷ xs) h =
    ap (λ (b : Bool). if b then Some 0 else onto (index_of t xs) (λ k. Some (suc k))) (h x)
    ∙ ap (λ o. if u x then Some 0 else onto o (λ k. Some (suc k))) (index_same t u xs h)

-- ---- items that are added where none is the same

item_case : {A : Type 0} (t : A → Bool) (xs : List A) (y : A) (b : Bool) → t y ≡ false → index_of t (if b then xs else xs ++ y ∷ []) ≡ index_of t xs
item_case t xs y true h = refl
item_case t xs y false h = index_append t xs y ∙ (ap (λ (b : Bool). option_or (index_of t xs) (if b then Some (length xs) else None)) h ∙ or_none (index_of t xs))

pub index_items : {A : Type 0} (t : A → Bool) (same : A → A → Bool) (xs ys : List A) → list_any t ys ≡ false → index_of t (with_items same xs ys) ≡ index_of t xs
index_items t same xs [] h = refl
index_items t same xs (y ∷ ys) h =
    let parts = or_parts (t y) (list_any t ys) h in
    index_items t same (with_item same xs y) ys parts.1 ∙ item_case t xs y (list_any (same y) xs) parts.0

-- ---- those that pass another test

filter_case : {A : Type 0} (t : A → Bool) (x : A) (xs : List A) (b : Bool) → (b ≡ true → t x ≡ false) → list_any t xs ≡ false → list_any t (if b then x ∷ xs else xs) ≡ false
filter_case t x xs true f h = or_from (t x) (list_any t xs) (f refl) h
filter_case t x xs false f h = h

pub none_filtered : {A : Type 0} (t p : A → Bool) (xs : List A) → ((x : A) → p x ≡ true → t x ≡ false) → list_any t (filter p xs) ≡ false
none_filtered t p [] f = refl
none_filtered t p (x ∷ xs) f = filter_case t x (filter p xs) (p x) (f x) (none_filtered t p xs f)

pub none_left : {A : Type 0} (t p : A → Bool) (xs : List A) → list_any t xs ≡ false → list_any t (filter p xs) ≡ false
none_left t p [] h = refl
none_left t p (x ∷ xs) h =
    let parts = or_parts (t x) (list_any t xs) h in
    filter_case t x (filter p xs) (p x) (λ e. parts.0) (none_left t p xs parts.1)
