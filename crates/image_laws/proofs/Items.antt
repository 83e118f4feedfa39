-- Lists of methods to which others are added.
use Rattle.std.proofs.Common.{◌≡◌, ℕ, Bool, true, false, List, [], ◌∷◌, ◌++◌, ◌⊎◌, inl, inr, Some, map, refl, sym, ap, ◌∙◌, subst, append-nil, append_assoc}
use Rattle.std.specs.Prelude.{slice_get, if◌then◌else◌}
use Rattle.std.specs.List.{list_any, filter}
use Rattle.std.proofs.lemmas.Bool.{false≢true, or_cases, or_left, or_right}
use Rattle.std.proofs.lemmas.List.Folds.{list_any-append}
use Rattle.lists.specs.Lists.{index_of}
use Rattle.lists.proofs.Lemmas.{index_there, index_found}
use Rattle.class_lookup.specs.Lookup.{Place, same_place}
use Rattle.class_lookup.proofs.Overriding.{has, has_head, has_tail, has_cases, any_place}
use Rattle.program_tables.specs.Lists.{with_item, with_items}
use Rattle.program_laws.proofs.Numbering.{has_place}

pub any_left : (test : Place → Bool) (xs ys : List Place) → list_any test xs ≡ true → list_any test (xs ++ ys) ≡ true
any_left test xs ys h = list_any-append test xs ys ∙ or_left (list_any test xs) (list_any test ys) h

pub any_right : (test : Place → Bool) (xs ys : List Place) → list_any test ys ≡ true → list_any test (xs ++ ys) ≡ true
any_right test xs ys h = list_any-append test xs ys ∙ or_right (list_any test xs) (list_any test ys) h

pub append_cases : (xs ys : List Place) (m : Place) → has (xs ++ ys) m ≡ true → (has xs m ≡ true) ⊎ (has ys m ≡ true)
append_cases xs ys m h = or_cases (has xs m) (has ys m) (sym (list_any-append (same_place m) xs ys) ∙ h)

-- ---- items that are added go last

item_more : (xs : List Place) (y : Place) (b : Bool) → (more : List Place) × ((if b then xs else xs ++ y ∷ []) ≡ xs ++ more)
item_more xs y true = ([], sym (append-nil xs))
item_more xs y false = (y ∷ [], refl)

pub with_more : (same : Place → Place → Bool) (xs ys : List Place) → (more : List Place) × (with_items same xs ys ≡ xs ++ more)
with_more same xs [] = ([], sym (append-nil xs))
with_more same xs (y ∷ ys) =
    let i = item_more xs y (list_any (same y) xs) in
    let r = with_more same (with_item same xs y) ys in
    (i.0 ++ r.0, r.1 ∙ (ap (λ zs. zs ++ r.0) i.1 ∙ append_assoc xs i.0 r.0))

-- one that is the same is then there
item_any : (same : Place → Place → Bool) (xs : List Place) (y : Place) (b : Bool) → list_any (same y) xs ≡ b → same y y ≡ true → list_any (same y) (if b then xs else xs ++ y ∷ []) ≡ true
item_any same xs y true h s = h
item_any same xs y false h s = any_right (same y) xs (y ∷ []) (or_left (same y y) false s)

pub with_any : (same : Place → Place → Bool) (xs ys : List Place) (y : Place) → has ys y ≡ true → same y y ≡ true → list_any (same y) (with_items same xs ys) ≡ true
with_any same xs [] y h s = absurd (false≢true h)
with_any same xs (z ∷ ys) y h s =
    elim (has_cases z y ys h) [
      | inl e ↦
          let w = with_more same (with_item same xs z) ys in
          let sz : same z z ≡ true = subst (λ (k : Place). same k k ≡ true) e s in
          let i : list_any (same z) (with_item same xs z) ≡ true = item_any same xs z (list_any (same z) xs) refl sz in
          ap (list_any (same y)) w.1 ∙ any_left (same y) (with_item same xs z) w.0 (ap (λ (k : Place). list_any (same k) (with_item same xs z)) e ∙ i)
      | inr e ↦ with_any same (with_item same xs z) ys y e s
    ]

-- there is nothing else
item_cases : (xs : List Place) (y m : Place) (b : Bool) → has (if b then xs else xs ++ y ∷ []) m ≡ true → (has xs m ≡ true) ⊎ (m ≡ y)
item_cases xs y m true h = inl h
item_cases xs y m false h =
    elim (append_cases xs (y ∷ []) m h) [
      | inl e ↦ inl e
      | inr e ↦ elim (has_cases y m [] e) [ inl s ↦ inr s | inr s ↦ absurd (false≢true s) ]
    ]

pub with_cases : (same : Place → Place → Bool) (xs ys : List Place) (m : Place) → has (with_items same xs ys) m ≡ true → (has xs m ≡ true) ⊎ (has ys m ≡ true)
with_cases same xs [] m h = inl h
with_cases same xs (y ∷ ys) m h =
    elim (with_cases same (with_item same xs y) ys m h) [
      | inl e ↦ elim (item_cases xs y m (list_any (same y) xs) e) [ inl f ↦ inl f | inr f ↦ inr (ap (has (y ∷ ys)) f ∙ has_head y ys) ]
      | inr e ↦ inr (has_tail y m ys e)
    ]

-- ---- those that pass a test

test_case : (test : Place → Bool) (x m : Place) (xs : List Place) (b : Bool) → test x ≡ b → (has (filter test xs) m ≡ true → (has xs m ≡ true) × (test m ≡ true))
    → has (if b then x ∷ filter test xs else filter test xs) m ≡ true → (has (x ∷ xs) m ≡ true) × (test m ≡ true)
test_case test x m xs true e later h =
    elim (has_cases x m (filter test xs) h) [
      | inl s ↦ (ap (has (x ∷ xs)) s ∙ has_head x xs, ap test s ∙ e)
      | inr s ↦ let r = later s in (has_tail x m xs r.0, r.1)
    ]
test_case test x m xs false e later h = let r = later h in (has_tail x m xs r.0, r.1)

pub filter_parts : (test : Place → Bool) (xs : List Place) (m : Place) → has (filter test xs) m ≡ true → (has xs m ≡ true) × (test m ≡ true)
filter_parts test [] m h = absurd (false≢true h)
filter_parts test (x ∷ xs) m h = test_case test x m xs (test x) refl (filter_parts test xs m) h

pub own_class : (c : ℕ) (is : List ℕ) (m : Place) → has (map (λ (i : ℕ). (c, i)) is) m ≡ true → m.0 ≡ c
own_class c [] m h = absurd (false≢true h)
own_class c (i ∷ is) m h =
    elim (has_cases (c, i) m (map (λ (i : ℕ). (c, i)) is) h) [
      | inl s ↦ ap (λ (x : Place). x.0) s
      | inr s ↦ own_class c is m s
    ]

-- the first of those that pass a test
pub first_place : (test : Place → Bool) (xs : List Place) → list_any test xs ≡ true → (i : ℕ) × (a : Place) × (index_of test xs ≡ Some i) × (slice_get xs i ≡ Some a) × (test a ≡ true)
first_place test xs h =
    let m = any_place test xs h in
    let j = has_place xs m.0 m.1 in
    let i = index_there test xs j.0 m.0 j.1 m.2 in
    let f = index_found test xs i.0 i.1 in
    (i.0, f.0, i.1, f.1, f.2)
