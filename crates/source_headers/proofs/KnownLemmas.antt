-- Names with numbers, one more at a time.
use Rattle.std.proofs.Common.{◌≡◌, ◌⊎◌, ℕ, zero, suc, ◌+◌, ◌<◌, ◌≤◌, Bool, true, false, not, ◌&&◌, List, [], ◌∷◌, ◌++◌, length, map, get_or, Contains, refl, sym, ◌∙◌, ap, ap₂, subst, arith, Some, None, cond, inl, inr, eqb, Vec, Global, IsTrue}
use Rattle.std.specs.Prelude.{nat_eq, nat_lt, slice_get, if◌then◌else◌, All, Result, Ok, Err, OnOk}
use Rattle.std.specs.List.{position, position_or_len, list_any}
use Rattle.std.proofs.lemmas.Bool.{cases_Bool, cases_lt, cond_below, eqb-true, eq-eqb, true≢false}
use Rattle.std.proofs.lemmas.List.{length-map, map-append}
use Rattle.std.proofs.lemmas.List.Elements.{All-contains, All-tail, All-weaker, Contains-get_or, Contains-append_left, Contains-push, Contains-push_cases}
use Rattle.std.proofs.lemmas.List.Folds.{list_any_at}
use Rattle.std.proofs.lemmas.List.Quantifiers.{position-Some}
use Rattle.std.proofs.lemmas.Option.{slice_get-get_or, get_or_from_slice_get}
use Rattle.lists.specs.Members.{at_head, in_tail, cons_cases, map_contains, nil_contains}
use Rattle.lists.specs.Tests.{and_left, and_right}
use Rattle.indexmap.specs.IndexSet.{insert_key}
use Rattle.indexmap.proofs.CallerLemmas.{Contains-list_any}
use lib.Pointwise.{pointwise, bytes_decides}
use Rattle.bound_texts.proofs.LoopsLemmas.NameLemmas.{texts, same_text, AreApart, IsGrown}
use Rattle.source_headers.specs.declared.site.Site.{Site}
use Rattle.source_headers.specs.Known.{site_by, IsWith, LacksSite}

abbrev pub same_site : Site → Site → Bool
same_site x y = eqb x.name y.name && eqb x.number y.number

abbrev pub AreNumbered : List (List ℕ) → List Site → Type 0
AreNumbered names ss = All (λ s. s.name < length names) ss

-- ---- a key more

insert_cases : {K : Type 0} (eq : K → K → Bool) (ks : List K) (k : K) → ((list_any (eq k) ks ≡ true) × (insert_key eq ks k ≡ ks)) ⊎ (insert_key eq ks k ≡ ks ++ k ∷ [])
insert_cases eq ks k =
    elim (cases_Bool (list_any (eq k) ks)) [
      | inl e ↦ inl (e, ap (λ b. if b then ks else ks ++ k ∷ []) e)
      | inr e ↦ inr (ap (λ b. if b then ks else ks ++ k ∷ []) e)
    ]

-- what is put behind others
pushed : {X : Type 0} (xs : List X) (x : X) → IsWith xs (xs ++ x ∷ []) (λ y. y ≡ x)
pushed xs x y = (
  λ c. elim (Contains-push_cases xs x y c) [ inl old ↦ inl old | inr same ↦ inr (sym same) ],
  λ h. elim h [ inl old ↦ Contains-append_left xs (x ∷ []) y old | inr same ↦ subst (λ (z : _). Contains (xs ++ x ∷ []) z) (sym same) (Contains-push xs x) ],
)

-- what is there stays as it is
there : {X : Type 0} (xs : List X) (x : X) → Contains xs x → IsWith xs xs (λ y. y ≡ x)
there xs x has y = (λ c. inl c, λ h. elim h [ inl old ↦ old | inr same ↦ subst (λ (z : _). Contains xs z) (sym same) has ])

-- ---- names

pub names_with : (ks more : List (Vec ℕ Global)) (i : ℕ) (name : Vec ℕ Global) → more ≡ insert_key same_text ks name → IsGrown (texts ks) (texts more) i name.items
    → IsWith (texts ks) (texts more) (λ x. x ≡ name.items)
names_with ks more i name is g =
    elim (insert_cases same_text ks name) [
      | inl same ↦
          let e : texts more ≡ texts ks = ap texts (is ∙ same.1) in
          let has : Contains (texts more) name.items = subst (λ (y : List ℕ). Contains (texts more) y) g.here (Contains-get_or (texts more) i [] g.within) in
          subst (λ (m : List (List ℕ)). IsWith (texts ks) m (λ x. x ≡ name.items)) (sym e) (there (texts ks) name.items (subst (λ (m : List (List ℕ)). Contains m name.items) e has))
      | inr one ↦
          let e : texts more ≡ texts ks ++ name.items ∷ [] = ap texts (is ∙ one) ∙ map-append (λ (k : Vec ℕ Global). k.items) ks (name ∷ []) in
          subst (λ (m : List (List ℕ)). IsWith (texts ks) m (λ x. x ≡ name.items)) (sym e) (pushed (texts ks) name.items)
    ]

pub name_at : (ks more : List (Vec ℕ Global)) (i : ℕ) (name : List ℕ) → IsGrown (texts ks) (texts more) i name → slice_get (texts more) i ≡ Some name
name_at ks more i name g = slice_get-get_or (texts more) i [] g.within ∙ ap (λ (x : List ℕ). Some x) g.here

pub sites_stay : (names more : List (List ℕ)) (i : ℕ) (name : List ℕ) → IsGrown names more i name → (ss : List Site) → AreNumbered names ss → map (site_by more) ss ≡ map (site_by names) ss
sites_stay names more i name g [] h = refl
sites_stay names more i name g (s ∷ ss) h =
    ap₂ (λ (n : List ℕ) (zs : List (List ℕ × ℕ)). (n, s.number) ∷ zs)
    (g.kept s.name (All-contains (λ (y : Site). y.name < length names) (s ∷ ss) s h (at_head s ss)))
    (sites_stay names more i name g ss (All-tail (λ (y : Site). y.name < length names) s ss h))

pub still_numbered : (names more : List (List ℕ)) (i : ℕ) (name : List ℕ) → IsGrown names more i name → (ss : List Site) → AreNumbered names ss → AreNumbered more ss
still_numbered names more i name g ss h = All-weaker (λ (y : Site). y.name < length names) (λ (y : Site). y.name < length more) (λ x k. omega (arith, k, g.longer)) ss h

-- ---- sites

same_are : (x y : Site) → same_site x y ≡ true → x ≡ y
same_are x y h =
    ap₂ (λ (n m : ℕ). let s : Site = record { name = n; number = m } in s)
    (eqb-true x.name y.name (and_left (eqb x.name y.name) (eqb x.number y.number) h))
    (eqb-true x.number y.number (and_right (eqb x.name y.name) (eqb x.number y.number) h))

are_same : (x y : Site) → x ≡ y → same_site x y ≡ true
are_same x y e = ap₂ (λ (a b : Bool). a && b) (eq-eqb x.name y.name (ap (λ (s : Site). s.name) e)) (eq-eqb x.number y.number (ap (λ (s : Site). s.number) e))

pub sites_with : (names : List (List ℕ)) (ss more : List Site) (s : Site) → more ≡ insert_key same_site ss s
    → IsWith (map (site_by names) ss) (map (site_by names) more) (λ x. x ≡ (get_or names s.name [], s.number))
sites_with names ss more s is =
    let f = site_by names in
    let Q : List ℕ × ℕ → Type 0 = λ x. x ≡ f s in
    elim (insert_cases same_site ss s) [
      | inl same ↦
          subst (λ (m : List Site). IsWith (map f ss) (map f m) Q) (sym (is ∙ same.1)) (there (map f ss) (f s) (map_contains f ss s (Contains-list_any same_site same_are ss s same.0)))
      | inr one ↦
          let e : map f more ≡ map f ss ++ f s ∷ [] = ap (map f) (is ∙ one) ∙ map-append f ss (s ∷ []) in
          subst (λ (m : List (List ℕ × ℕ)). IsWith (map f ss) m Q) (sym e) (pushed (map f ss) (f s))
    ]

-- ---- numbers of one name

pub one_more : (old now next : List (List ℕ × ℕ)) (name : List ℕ) (ns : List ℕ) (n : ℕ) → IsWith old now (λ s. (s.0 ≡ name) × Contains ns s.1) → IsWith now next (λ s. s ≡ (name, n))
    → IsWith old next (λ s. (s.0 ≡ name) × Contains (ns ++ n ∷ []) s.1)
one_more old now next name ns n first second s = (to, from)
  where
    behind : (s.0 ≡ name) × Contains ns s.1 → (s.0 ≡ name) × Contains (ns ++ n ∷ []) s.1
    behind k = (k.0, Contains-append_left ns (n ∷ []) s.1 k.1)

    to : Contains next s → Contains old s ⊎ ((s.0 ≡ name) × Contains (ns ++ n ∷ []) s.1)
    to c =
        elim ((second s).0 c) [
          | inl here ↦ elim ((first s).0 here) [ inl k ↦ inl k | inr k ↦ inr (behind k) ]
          | inr e ↦ inr (ap (λ (z : List ℕ × ℕ). z.0) e, subst (λ (z : ℕ). Contains (ns ++ n ∷ []) z) (sym (ap (λ (z : List ℕ × ℕ). z.1) e)) (Contains-push ns n))
        ]

    from : Contains old s ⊎ ((s.0 ≡ name) × Contains (ns ++ n ∷ []) s.1) → Contains next s
    from (inl k) = (second s).1 (inl ((first s).1 (inl k)))
    from (inr k) =
        elim (Contains-push_cases ns n s.1 k.1) [
          | inl c ↦ (second s).1 (inl ((first s).1 (inr (k.0, c))))
          | inr e ↦ (second s).1 (inr (ap₂ (λ (a : List ℕ) (b : ℕ). (a, b)) k.0 (sym e)))
        ]

-- ---- whether a site lacks

position_or_len-texts : (p : List ℕ → Bool) (ks : List (Vec ℕ Global)) → position_or_len (λ k. p k.items) ks ≡ position_or_len p (texts ks)
position_or_len-texts p [] = refl
position_or_len-texts p (k ∷ ks) = ap (λ n. cond (not (p k.items)) (1 + n) 0) (position_or_len-texts p ks)

position-texts : (p : List ℕ → Bool) (ks : List (Vec ℕ Global)) → position (λ k. p k.items) ks ≡ position p (texts ks)
position-texts p ks = ap₂ (λ n m. cond (nat_lt n m) (Some n) None) (position_or_len-texts p ks) (sym (length-map ks (λ (k : Vec ℕ Global). k.items)))

from_map : {X Y : Type 0} (f : X → Y) (xs : List X) (y : Y) → Contains (map f xs) y → (x : X) × Contains xs x × (f x ≡ y)
from_map f [] y c = absurd (nil_contains y c)
from_map f (x ∷ xs) y c =
    elim (cons_cases (f x) y (map f xs) c) [
      | inl same ↦ (x, at_head x xs, same)
      | inr more ↦ let r = from_map f xs y more in (r.0, in_tail x r.0 xs r.1, r.2)
    ]

any_there : (s : Site) (ss : List Site) → Contains ss s → list_any (same_site s) ss ≡ true
any_there s ss c = list_any_at (same_site s) ss c.0 s c.1 (are_same s (get_or ss c.0 s) (sym c.2))

module _ (ks : List (Vec ℕ Global)) (ss : List Site) (name : List ℕ) (n : ℕ) (numbered : AreNumbered (texts ks) ss) (apart : AreApart (texts ks)) where
  pub lacks_some : (i : ℕ) (r : Bool) → Some i ≡ position (λ k. pointwise nat_eq name k.items) ks → r ≡ list_any (same_site (record { name = i; number = n })) ss
      → (IsTrue (not r) → LacksSite (record { names = texts ks; sites = map (site_by (texts ks)) ss }) name n) × (LacksSite (record { names = texts ks; sites = map (site_by (texts ks)) ss }) name n → IsTrue (not r))
  lacks_some i r e is =
      let names = texts ks in
      let f = site_by names in
      let s : Site = record { name = i; number = n } in
      let at = position-Some (pointwise nat_eq name) names i [] (sym (e ∙ position-texts (pointwise nat_eq name) ks)) in
      let here : get_or names i [] ≡ name = sym ((bytes_decides name (get_or names i [])).0 at.1) in
      let has : Contains names name = subst (λ (y : List ℕ). Contains names y) here (Contains-get_or names i [] at.0) in
      let inside : Contains (map f ss) (name, n) → r ≡ true =
      λ c.
      let t = from_map f ss (name, n) c in
      let lt = All-contains (λ (y : Site). y.name < length names) ss t.0 numbered t.1 in
      let same : i ≡ t.0.name = apart i t.0.name at.0 lt (here ∙ sym (ap (λ (z : List ℕ × ℕ). z.0) t.2)) in
      let one : t.0 ≡ s = ap₂ (λ (a b : ℕ). let s : Site = record { name = a; number = b } in s) (sym same) (ap (λ (z : List ℕ × ℕ). z.1) t.2) in
      is ∙ any_there s ss (subst (λ (z : Site). Contains ss z) one t.1) in
      let outside : r ≡ true → Contains (map f ss) (name, n) =
      λ h. subst (λ (y : List ℕ). Contains (map f ss) (y, n)) here (map_contains f ss s (Contains-list_any same_site same_are ss s (sym is ∙ h))) in (
        λ no. (has, λ c. true≢false (sym (inside c) ∙ not_is r no)),
        λ l. elim (cases_Bool r) [ inl h ↦ absurd (l.1 (outside h)) | inr h ↦ ap not h ],
      )
    where
      not_is : (b : Bool) → IsTrue (not b) → b ≡ false
      not_is true h = sym h
      not_is false h = refl

  -- where no name passes, none is the name
  pub lacks_none : None ≡ position (λ k. pointwise nat_eq name k.items) ks → Contains (texts ks) name → ⊥
  lacks_none e c =
      let p = pointwise nat_eq name in
      let names = texts ks in
      let absent : None ≡ position p names = e ∙ position-texts p ks in
      let at = position_or_len p names in
      elim (cases_lt at (length names)) [
        | inl h ↦ let found : Some at ≡ position p names = cond_below at (length names) (Some at) None h in cc
        | inr h ↦ true≢false (sym ((bytes_decides name (get_or names c.0 name)).1 (sym c.2)) ∙ passed p names c.0 name c.1 h)
      ]
    where
      passed : (p : List ℕ → Bool) (xs : List (List ℕ)) (k : ℕ) (d : List ℕ) → k < length xs → length xs ≤ position_or_len p xs → p (get_or xs k d) ≡ false
      passed p [] k d lt h = absurd (omega arith)
      passed p (x ∷ xs) zero d lt h =
          elim (cases_Bool (p x)) [
            | inl e ↦ absurd (omega (arith, subst (λ (b : Bool). length (x ∷ xs) ≤ cond (not b) (1 + position_or_len p xs) 0) e h))
            | inr e ↦ e
          ]
      passed p (x ∷ xs) (suc k) d lt h =
          elim (cases_Bool (p x)) [
            | inl e ↦ absurd (omega (arith, subst (λ (b : Bool). length (x ∷ xs) ≤ cond (not b) (1 + position_or_len p xs) 0) e h))
            | inr e ↦ passed p xs k d (omega arith) (omega (arith, subst (λ (b : Bool). length (x ∷ xs) ≤ cond (not b) (1 + position_or_len p xs) 0) e h))
          ]

-- ---- a name with its numbers

pub same_names : {E : Type 0} (r : Result (Unit {0}) E) (old now new : List (List ℕ)) (name : List ℕ) → IsWith old now (λ x. x ≡ name) → new ≡ now → OnOk r (IsWith old new (λ x. x ≡ name))
same_names (Ok _) old now new name h e = subst (λ (xs : List (List ℕ)). IsWith old xs (λ x. x ≡ name)) (sym e) h
same_names (Err _) old now new name h e = tt

pub of_name : {E : Type 0} (r : Result (Unit {0}) E) (names : List (List ℕ)) (old now new : List (List ℕ × ℕ)) (name : List ℕ) (i : ℕ) (ns : List ℕ) → slice_get names i ≡ Some name → now ≡ old
    → OnOk r (IsWith now new (λ s. (s.0 ≡ get_or names i []) × Contains ns s.1)) → OnOk r (IsWith old new (λ s. (s.0 ≡ name) × Contains ns s.1))
of_name (Ok _) names old now new name i ns at same h =
    let W : List (List ℕ × ℕ) → List ℕ → Type 0 = λ from x. IsWith from new (λ s. (s.0 ≡ x) × Contains ns s.1) in
    subst (λ (x : List ℕ). W old x) (get_or_from_slice_get names i name [] at) (subst (λ (from : List (List ℕ × ℕ)). W from (get_or names i [])) same h)
of_name (Err _) names old now new name i ns at same h = tt
