-- Bounds by the numbers of their names.
use Rattle.std.proofs.Common.{◌≡◌, ◌≢◌, ℕ, ◌+◌, ◌<◌, ◌≤◌, Bool, true, false, not, ◌&&◌, List, [], ◌∷◌, ◌++◌, length, map, get_or, append-nil, refl, sym, ◌∙◌, ap, ap₂, subst, arith, Some, None, cond, inl, inr, eqb, Vec, Global}
use Rattle.std.specs.Prelude.{nat_eq, nat_lt, if◌then◌else◌, slice_get, All}
use Rattle.std.specs.List.{position, position_or_len, list_any, IsDistinct}
use Rattle.std.specs.Map.{lookup}
use Rattle.std.proofs.lemmas.Bool.{cases_Bool, cases_lt, cond_below, eqb-true, eq-eqb, true≢false}
use Rattle.std.proofs.lemmas.List.{get_or-map, length-map, map-append, get_or_append_left, length-append}
use Rattle.std.proofs.lemmas.List.Elements.{All-head, All-tail, All-cons, All-nil, All-weaker, All-push}
use Rattle.std.proofs.lemmas.List.Quantifiers.{position-Some}
use Rattle.std.proofs.lemmas.Option.{slice_get_within, get_or_from_slice_get}
use Rattle.std.proofs.lemmas.Map.Keys.{apart_from_distinct}
use Rattle.indexmap.specs.IndexSet.{insert_key}
use lib.Pointwise.{pointwise, bytes_decides}
use Rattle.bound_texts.specs.declared.loops.site.Site.{Site}
use Rattle.bound_texts.specs.Loops.Bounds.{bound_in}
use Rattle.bound_texts.specs.Loops.Meaning.{bound_of}

-- the test of a key
abbrev pub is_site : ℕ → ℕ → Site → Bool
is_site name pc k = eqb name k.name && eqb pc k.pc

abbrev pub texts : List (Vec ℕ Global) → List (List ℕ)
texts ks = map (λ k. k.items) ks

abbrev pub same_text : Vec ℕ Global → Vec ℕ Global → Bool
same_text x y = pointwise nat_eq x.items y.items

abbrev pub AreNumbered : List (List ℕ) → List (Site × ℕ) → Type 0
AreNumbered names es = All (λ e. e.0.name < length names) es

-- each name has one number
abbrev pub AreApart : List (List ℕ) → Type 0
AreApart names = (i : ℕ) (j : ℕ) → i < length names → j < length names → get_or names i [] ≡ get_or names j [] → i ≡ j

-- ---- what is found

same_test : (names : List (List ℕ)) (name : List ℕ) (i j : ℕ) → AreApart names → i < length names → j < length names → get_or names i [] ≡ name
    → pointwise nat_eq name (get_or names j []) ≡ eqb i j
same_test names name i j apart il jl e = elim (cases_Bool (pointwise nat_eq name (get_or names j []))) [
  | inl h ↦ h ∙ sym (eq-eqb i j (apart i j il jl (e ∙ (bytes_decides name (get_or names j [])).0 h)))
  | inr h ↦ elim (cases_Bool (eqb i j)) [
    | inl k ↦ absurd (true≢false (sym ((bytes_decides name (get_or names j [])).1 (sym e ∙ ap (λ n. get_or names n []) (eqb-true i j k))) ∙ h))
    | inr k ↦ h ∙ sym k
  ]
]

-- by the number, what is found is the bound
pub found_by_number : (names : List (List ℕ)) (name : List ℕ) (i pc : ℕ) → AreApart names → i < length names → get_or names i [] ≡ name
    → (es : List (Site × ℕ)) → AreNumbered names es → lookup (is_site i pc) es ≡ bound_in name pc (map (bound_of names) es)
found_by_number names name i pc apart il e [] h = refl
found_by_number names name i pc apart il e (x ∷ es) h =
    ap₂ (λ b o. cond (b && eqb pc x.0.pc) (Some x.1) o)
    (sym (same_test names name i x.0.name apart il (All-head (λ (y : Site × ℕ). y.0.name < length names) x es h) e))
    (found_by_number names name i pc apart il e es (All-tail (λ (y : Site × ℕ). y.0.name < length names) x es h))

position_or_len-texts : (p : List ℕ → Bool) (ks : List (Vec ℕ Global)) → position_or_len (λ k. p k.items) ks ≡ position_or_len p (texts ks)
position_or_len-texts p [] = refl
position_or_len-texts p (k ∷ ks) = ap (λ n. cond (not (p k.items)) (1 + n) 0) (position_or_len-texts p ks)

position-texts : (p : List ℕ → Bool) (ks : List (Vec ℕ Global)) → position (λ k. p k.items) ks ≡ position p (texts ks)
position-texts p ks = ap₂ (λ n m. cond (nat_lt n m) (Some n) None) (position_or_len-texts p ks) (sym (length-map ks (λ (k : Vec ℕ Global). k.items)))

-- where no name passes, no bound is of it
passed : (p : List ℕ → Bool) (xs : List (List ℕ)) → length xs ≤ position_or_len p xs → All (λ x. p x ≡ false) xs
passed p [] h = All-nil (λ x. p x ≡ false)
passed p (x ∷ xs) h = elim (cases_Bool (p x)) [
  | inl e ↦ absurd (omega (arith, subst (λ (b : Bool). length (x ∷ xs) ≤ cond (not b) (1 + position_or_len p xs) 0) e h))
  | inr e ↦ All-cons (λ x. p x ≡ false) x xs e (passed p xs (omega (arith, subst (λ (b : Bool). length (x ∷ xs) ≤ cond (not b) (1 + position_or_len p xs) 0) e h)))
]

none_among : (names : List (List ℕ)) (name : List ℕ) (pc : ℕ) → All (λ x. pointwise nat_eq name x ≡ false) names → (es : List (Site × ℕ)) → AreNumbered names es
    → bound_in name pc (map (bound_of names) es) ≡ None
none_among names name pc none [] h = refl
none_among names name pc none (x ∷ es) h =
    ap₂ (λ b o. cond (b && eqb pc x.0.pc) (Some x.1) o)
    (none x.0.name [] (All-head (λ (y : Site × ℕ). y.0.name < length names) x es h))
    (none_among names name pc none es (All-tail (λ (y : Site × ℕ). y.0.name < length names) x es h))

pub bound_some : (ks : List (Vec ℕ Global)) (es : List (Site × ℕ)) (name : List ℕ) (i pc : ℕ) → AreNumbered (texts ks) es → AreApart (texts ks)
    → Some i ≡ position (λ k. pointwise nat_eq name k.items) ks → lookup (is_site i pc) es ≡ bound_in name pc (map (bound_of (texts ks)) es)
bound_some ks es name i pc numbered apart e =
    let at = position-Some (pointwise nat_eq name) (texts ks) i [] (sym (e ∙ position-texts (pointwise nat_eq name) ks)) in
    found_by_number (texts ks) name i pc apart at.0 (sym ((bytes_decides name (get_or (texts ks) i [])).0 at.1)) es numbered

pub bound_none : (ks : List (Vec ℕ Global)) (es : List (Site × ℕ)) (name : List ℕ) (pc : ℕ) → AreNumbered (texts ks) es
    → None ≡ position (λ k. pointwise nat_eq name k.items) ks → None ≡ bound_in name pc (map (bound_of (texts ks)) es)
bound_none ks es name pc numbered e =
    let names = texts ks in
    let p = pointwise nat_eq name in
    let at = position_or_len p names in
    let absent : None ≡ position p names = e ∙ position-texts p ks in
    elim (cases_lt at (length names)) [
      | inl h ↦
          let found : Some at ≡ position p names = cond_below at (length names) (Some at) None h in
          cc
      | inr h ↦ sym (none_among names name pc (passed p names h) es numbered)
    ]

-- ---- one name more

pub record IsGrown (names more : List (List ℕ)) (i : ℕ) (name : List ℕ) : Type 0 where
  pub longer : length names ≤ length more
  pub kept : (n : ℕ) → n < length names → get_or more n [] ≡ get_or names n []
  pub within : i < length more
  pub here : get_or more i [] ≡ name
  pub apart : AreApart more

ahead : (ks : List (Vec ℕ Global)) (name : Vec ℕ Global) → (t : List (Vec ℕ Global)) × (insert_key same_text ks name ≡ ks ++ t)
ahead ks name = elim (cases_Bool (list_any (same_text name) ks)) [
  | inl e ↦ ([], ap (λ b. if b then ks else ks ++ name ∷ []) e ∙ sym (append-nil ks))
  | inr e ↦ (name ∷ [], ap (λ b. if b then ks else ks ++ name ∷ []) e)
]

different : (ks : List (Vec ℕ Global)) (d : Vec ℕ Global) → IsDistinct same_text ks → (i j : ℕ) → i < j → j < length (texts ks) → get_or (texts ks) i [] ≢ get_or (texts ks) j []
different ks d distinct i j lt jl e =
    let long = length-map ks (λ (k : Vec ℕ Global). k.items) in
    let apart = apart_from_distinct same_text ks i j d distinct lt (omega (arith, jl, long)) in
    let at_i = get_or-map (λ (k : Vec ℕ Global). k.items) ks i d [] (omega (arith, jl, long, lt)) in
    let at_j = get_or-map (λ (k : Vec ℕ Global). k.items) ks j d [] (omega (arith, jl, long)) in
    true≢false (sym ((bytes_decides _ _).1 (sym at_i ∙ e ∙ at_j)) ∙ apart)

apart_by : (ks : List (Vec ℕ Global)) (d : Vec ℕ Global) → IsDistinct same_text ks → AreApart (texts ks)
apart_by ks d distinct i j il jl e = elim (cases_lt i j) [
  | inl lt ↦ absurd (different ks d distinct i j lt jl e)
  | inr ge ↦ elim (cases_lt j i) [
    | inl lt ↦ absurd (different ks d distinct j i lt il (sym e))
    | inr le ↦ omega arith
  ]
]

pub grown : (ks more : List (Vec ℕ Global)) (i : ℕ) (name : Vec ℕ Global) → more ≡ insert_key same_text ks name
    → (k : Vec ℕ Global) × (slice_get more i ≡ Some k) × (same_text name k ≡ true) → IsDistinct same_text more → IsGrown (texts ks) (texts more) i name.items
grown ks more i name is stored distinct =
    let items = λ (k : Vec ℕ Global). k.items in
    let t = ahead ks name in
    let split : texts more ≡ texts ks ++ texts t.0 = ap texts (is ∙ t.1) ∙ map-append items ks t.0 in
    let lt = slice_get_within more i stored.0 stored.1 in
    record {
      longer = omega (arith, ap length split, length-append (texts ks) (texts t.0));
      kept = λ n h. ap (λ ns. get_or ns n []) split ∙ get_or_append_left (texts ks) (texts t.0) [] n h;
      within = omega (arith, length-map more items, lt);
      here = get_or-map items more i name [] lt ∙ ap items (get_or_from_slice_get more i stored.0 name stored.1) ∙ sym ((bytes_decides name.items stored.0.items).0 stored.2);
      apart = apart_by more name distinct;
    }

-- the bounds stay
pub bounds_stay : (names more : List (List ℕ)) (i : ℕ) (name : List ℕ) → IsGrown names more i name → (es : List (Site × ℕ)) → AreNumbered names es
    → map (bound_of more) es ≡ map (bound_of names) es
bounds_stay names more i name g [] h = refl
bounds_stay names more i name g (x ∷ es) h =
    ap₂ (λ (n : List ℕ) bs. (record { name = n; pc = x.0.pc; bound = x.1 }) ∷ bs)
    (g.kept x.0.name (All-head (λ (y : Site × ℕ). y.0.name < length names) x es h))
    (bounds_stay names more i name g es (All-tail (λ (y : Site × ℕ). y.0.name < length names) x es h))

pub still_numbered : (names more : List (List ℕ)) (i : ℕ) (name : List ℕ) → IsGrown names more i name → (es : List (Site × ℕ)) → AreNumbered names es → AreNumbered more es
still_numbered names more i name g es h = All-weaker (λ (y : Site × ℕ). y.0.name < length names) (λ (y : Site × ℕ). y.0.name < length more) (λ x k. omega (arith, k, g.longer)) es h

-- a loop that had no bound isn't found
pub not_found : (names more : List (List ℕ)) (i pc : ℕ) (name : List ℕ) → IsGrown names more i name → (es : List (Site × ℕ)) → AreNumbered names es
    → bound_in name pc (map (bound_of names) es) ≡ None → lookup (is_site i pc) es ≡ None
not_found names more i pc name g es h none =
    found_by_number more name i pc g.apart g.within g.here es (still_numbered names more i name g es h)
    ∙ ap (bound_in name pc) (bounds_stay names more i name g es h) ∙ none

pub one_numbered : (names more : List (List ℕ)) (i pc bound : ℕ) (name : List ℕ) → IsGrown names more i name → (es : List (Site × ℕ)) → AreNumbered names es
    → AreNumbered more (es ++ (record { name = i; pc = pc }, bound) ∷ [])
one_numbered names more i pc bound name g es h = All-push (λ (y : Site × ℕ). y.0.name < length more) es _ (still_numbered names more i name g es h) g.within

pub one_bound : (names more : List (List ℕ)) (i pc bound : ℕ) (name : List ℕ) → IsGrown names more i name → (es : List (Site × ℕ)) → AreNumbered names es
    → map (bound_of more) (es ++ (record { name = i; pc = pc }, bound) ∷ []) ≡ map (bound_of names) es ++ (record { name = name; pc = pc; bound = bound }) ∷ []
one_bound names more i pc bound name g es h =
    map-append (bound_of more) es ((record { name = i; pc = pc }, bound) ∷ [])
    ∙ ap₂ (λ bs (n : List ℕ). bs ++ (record { name = n; pc = pc; bound = bound }) ∷ []) (bounds_stay names more i name g es h) g.here
