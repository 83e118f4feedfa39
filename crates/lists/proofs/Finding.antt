-- Lists of numbers in which the same is found.
use Rattle.std.proofs.Common.{◌≡◌, ℕ, Bool, true, false, ◌||◌, eqb, List, [], ◌∷◌, ◌++◌, map, Option, Some, None, inl, inr, refl, sym, ap, ap₂, ◌∙◌}
use Rattle.std.specs.Prelude.{is_some, if◌then◌else◌}
use Rattle.std.specs.Option.{option_or}
use Rattle.std.specs.List.{flat_map}
use Rattle.std.proofs.lemmas.List.{map-append}
use Rattle.std.proofs.lemmas.Bool.{or_cases, or_left, or_right, eqb-true, eq-eqb, false≢true}
use Rattle.lists.proofs.Lemmas.{none≢some}
use Rattle.lists.specs.Lists.{first_some}
use Rattle.lists.specs.Numbers.{is_among, IsSameSearch}
use Rattle.lists.proofs.Searching.{first_cons, first_append}

-- a number and a place, of what is found
abbrev pub Place : Type 0
Place = ℕ × ℕ

abbrev pub Find : Type 0
Find = ℕ → Option Place

pub same_search : (xs ys : List ℕ) → xs ≡ ys → IsSameSearch xs ys
same_search xs ys h find = ap (λ zs. first_some (map find zs)) h

-- in lists one behind another
pub search_append : (find : Find) (xs ys : List ℕ) → first_some (map find (xs ++ ys)) ≡ option_or (first_some (map find xs)) (first_some (map find ys))
search_append find xs ys = ap first_some (map-append find xs ys) ∙ first_append (map find xs) (map find ys)

pub same_append : (xs xs' ys ys' : List ℕ) → IsSameSearch xs xs' → IsSameSearch ys ys' → IsSameSearch (xs ++ ys) (xs' ++ ys')
same_append xs xs' ys ys' h k find = search_append find xs ys ∙ (ap₂ option_or (h find) (k find) ∙ sym (search_append find xs' ys'))

pub same_flat : (f g : ℕ → List ℕ) (xs : List ℕ) → ((x : ℕ) → is_among xs x ≡ true → IsSameSearch (f x) (g x)) → IsSameSearch (flat_map f xs) (flat_map g xs)
same_flat f g [] h find = refl
same_flat f g (x ∷ xs) h find =
    same_append (f x) (g x) (flat_map f xs) (flat_map g xs) (h x (or_left (eqb x x) (is_among xs x) (eq-eqb x x refl)))
    (same_flat f g xs (λ y e. h y (or_right (eqb x y) (is_among xs y) e))) find

-- ---- what is nowhere found

none_case : (find : Find) (y : ℕ) (ys : List ℕ) (o : Option Place) → find y ≡ o → o ≡ None → first_some (map find ys) ≡ None → option_or o (first_some (map find ys)) ≡ None
none_case find y ys None e n h = h
none_case find y ys (Some p) e n h = n

pub all_none : (find : Find) (ys : List ℕ) → ((y : ℕ) → is_among ys y ≡ true → find y ≡ None) → first_some (map find ys) ≡ None
all_none find [] h = refl
all_none find (y ∷ ys) h =
    first_cons (find y) (map find ys)
    ∙ none_case find y ys (find y) refl (h y (or_left (eqb y y) (is_among ys y) (eq-eqb y y refl))) (all_none find ys (λ z e. h z (or_right (eqb y z) (is_among ys z) e)))

none_cons : (o : Option Place) (r : Option Place) → option_or o r ≡ None → (o ≡ None) × (r ≡ None)
none_cons None r h = (refl, h)
none_cons (Some p) r h = absurd (none≢some p (sym h))

pub none_each : (find : Find) (ys : List ℕ) (y : ℕ) → first_some (map find ys) ≡ None → is_among ys y ≡ true → find y ≡ None
none_each find [] y h e = absurd (false≢true e)
none_each find (x ∷ ys) y h e =
    let r = none_cons (find x) (first_some (map find ys)) (sym (first_cons (find x) (map find ys)) ∙ h) in
    elim (or_cases (eqb x y) (is_among ys y) e) [
      | inl s ↦ ap find (sym (eqb-true x y s)) ∙ r.0
      | inr s ↦ none_each find ys y r.1 s
    ]

-- numbers that all stand before add nothing
covered_case : (find : Find) (xs ys : List ℕ) → ((y : ℕ) → is_among ys y ≡ true → is_among xs y ≡ true) → (o : Option Place) → first_some (map find xs) ≡ o → option_or o (first_some (map find ys)) ≡ o
covered_case find xs ys h None e = all_none find ys (λ y i. none_each find xs y e (h y i))
covered_case find xs ys h (Some p) e = refl

pub covered : (xs ys : List ℕ) → ((y : ℕ) → is_among ys y ≡ true → is_among xs y ≡ true) → IsSameSearch xs (xs ++ ys)
covered xs ys h find = sym (search_append find xs ys ∙ covered_case find xs ys h (first_some (map find xs)) refl)

-- ---- the same is among them

mark_of : ℕ → Find
mark_of d k = if eqb k d then Some (d, 0) else None

found_mark : (d k : ℕ) (b : Bool) → is_some {T = Place} (if b then Some (d, 0) else None) ≡ b
found_mark d k true = refl
found_mark d k false = refl

some_or : (o r : Option Place) (b c : Bool) → is_some o ≡ b → is_some r ≡ c → is_some (option_or o r) ≡ (b || c)
some_or None r true c h k = absurd (false≢true h)
some_or None r false c h k = k
some_or (Some p) r true c h k = refl
some_or (Some p) r false c h k = absurd (false≢true (sym h))

among_found : (xs : List ℕ) (d : ℕ) → is_some (first_some (map (mark_of d) xs)) ≡ is_among xs d
unfolding mark_of
among_found [] d = refl
among_found (x ∷ xs) d =
    ap is_some (first_cons (mark_of d x) (map (mark_of d) xs))
    ∙ some_or (mark_of d x) (first_some (map (mark_of d) xs)) (eqb x d) (is_among xs d) (found_mark d x (eqb x d)) (among_found xs d)

pub same_among : (xs ys : List ℕ) (d : ℕ) → IsSameSearch xs ys → is_among xs d ≡ is_among ys d
same_among xs ys d h = sym (among_found xs d) ∙ (ap is_some (h (mark_of d)) ∙ among_found ys d)
