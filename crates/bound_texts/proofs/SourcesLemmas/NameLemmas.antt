-- Bounds by the numbers of their names.
use Rattle.std.proofs.Common.{◌≡◌, ℕ, ◌+◌, ◌<◌, ◌≤◌, Bool, true, false, not, ◌&&◌, List, [], ◌∷◌, ◌++◌, length, map, get_or, refl, sym, ◌∙◌, ap, ap₂, subst, arith, Some, None, cond, inl, inr, eqb, Vec, Global}
use Rattle.std.specs.Prelude.{nat_eq, nat_lt, All}
use Rattle.std.specs.List.{position, position_or_len}
use Rattle.std.specs.Map.{lookup}
use Rattle.std.proofs.Math.Bool.{beq}
use Rattle.std.proofs.lemmas.Bool.{cases_Bool, cases_lt, cond_below, eqb-true, eq-eqb, true≢false}
use Rattle.std.proofs.lemmas.List.{length-map, map-append}
use Rattle.std.proofs.lemmas.List.Elements.{All-head, All-tail, All-cons, All-nil, All-weaker, All-push}
use Rattle.std.proofs.lemmas.List.Quantifiers.{position-Some}
use lib.Pointwise.{pointwise, bytes_decides}
use Rattle.bound_texts.proofs.LoopsLemmas.NameLemmas.{texts, AreApart, IsGrown}
use Rattle.bound_texts.specs.declared.sources.site.Site.{Site}
use Rattle.bound_texts.specs.Sources.Notes.{Subject, AtLine, AtPlace, same_subject, noted_bound}
use Rattle.bound_texts.specs.Sources.Meaning.{subject_of, note_of, is_line, name_of, number_of}

-- the test of a key
abbrev pub is_site : Bool → ℕ → ℕ → Site → Bool
is_site of_line name number k = beq of_line k.of_line && (eqb name k.name && eqb number k.number)

abbrev pub AreNumbered : List (List ℕ) → List (Site × ℕ) → Type 0
AreNumbered names es = All (λ e. e.0.name < length names) es

-- ---- what is found

same_test : (names : List (List ℕ)) (name : List ℕ) (i j : ℕ) → AreApart names → i < length names → j < length names → get_or names i [] ≡ name
    → pointwise nat_eq name (get_or names j []) ≡ eqb i j
same_test names name i j apart il jl e = elim (cases_Bool (pointwise nat_eq name (get_or names j []))) [
  | inl h ↦ h ∙ sym (eq-eqb i j (apart i j il jl (e ∙ (bytes_decides name (get_or names j [])).0 h)))
  | inr h ↦ elim (cases_Bool (eqb i j)) [
    | inl k ↦ absurd (true≢false (sym ((bytes_decides name (get_or names j [])).1 (sym e ∙ ap (λ n. get_or names n []) (eqb-true i j k))) ∙ h))
    | inr k ↦ h ∙ sym k
  ]
]

-- the test of a kept subject is that of its number
subject_test : (of_line other : Bool) (name text : List ℕ) (i j n m : ℕ) → pointwise nat_eq name text ≡ eqb i j
    → (beq of_line other && (eqb i j && eqb n m)) ≡ same_subject (subject_of of_line name n) (subject_of other text m)
subject_test true true name text i j n m h = ap (λ (t : Bool). t && eqb n m) (sym h)
subject_test false false name text i j n m h = ap (λ (t : Bool). t && eqb n m) (sym h)
subject_test true false name text i j n m h = refl
subject_test false true name text i j n m h = refl

-- a subject of another name is another one
other_name : (of_line other : Bool) (name text : List ℕ) (n m : ℕ) → pointwise nat_eq name text ≡ false → same_subject (subject_of of_line name n) (subject_of other text m) ≡ false
other_name true true name text n m h = ap (λ (t : Bool). t && eqb n m) h
other_name false false name text n m h = ap (λ (t : Bool). t && eqb n m) h
other_name true false name text n m h = refl
other_name false true name text n m h = refl

-- by the number, what is found is the bound
pub found_by_number : (names : List (List ℕ)) (of_line : Bool) (name : List ℕ) (i n : ℕ) → AreApart names → i < length names → get_or names i [] ≡ name
    → (es : List (Site × ℕ)) → AreNumbered names es → lookup (is_site of_line i n) es ≡ noted_bound (subject_of of_line name n) (map (note_of names) es)
found_by_number names of_line name i n apart il e [] h = refl
found_by_number names of_line name i n apart il e (x ∷ es) h =
    ap₂ (λ b o. cond b (Some x.1) o)
    (subject_test of_line x.0.of_line name (get_or names x.0.name []) i x.0.name n x.0.number
    (same_test names name i x.0.name apart il (All-head (λ (y : Site × ℕ). y.0.name < length names) x es h) e))
    (found_by_number names of_line name i n apart il e es (All-tail (λ (y : Site × ℕ). y.0.name < length names) x es h))

position_or_len-texts : (p : List ℕ → Bool) (ks : List (Vec ℕ Global)) → position_or_len (λ k. p k.items) ks ≡ position_or_len p (texts ks)
position_or_len-texts p [] = refl
position_or_len-texts p (k ∷ ks) = ap (λ n. cond (not (p k.items)) (1 + n) 0) (position_or_len-texts p ks)

position-texts : (p : List ℕ → Bool) (ks : List (Vec ℕ Global)) → position (λ k. p k.items) ks ≡ position p (texts ks)
position-texts p ks = ap₂ (λ n m. cond (nat_lt n m) (Some n) None) (position_or_len-texts p ks) (sym (length-map ks (λ (k : Vec ℕ Global). k.items)))

-- where no name passes, no bound is of it
passed : (p : List ℕ → Bool) (xs : List (List ℕ)) → length xs ≤ position_or_len p xs → All (λ x. p x ≡ false) xs
passed p [] h = All-nil (λ x. p x ≡ false)
passed p (x ∷ xs) h = elim (cases_Bool (p x)) [
  | inl e ↦ absurd (omega (arith, subst (λ (b : Bool). length (x ∷ xs) ≤ cond (not b) (1 + position_or_len p xs) 0) e h))
  | inr e ↦ All-cons (λ x. p x ≡ false) x xs e (passed p xs (omega (arith, subst (λ (b : Bool). length (x ∷ xs) ≤ cond (not b) (1 + position_or_len p xs) 0) e h)))
]

none_among : (names : List (List ℕ)) (of_line : Bool) (name : List ℕ) (n : ℕ) → All (λ x. pointwise nat_eq name x ≡ false) names → (es : List (Site × ℕ)) → AreNumbered names es
    → noted_bound (subject_of of_line name n) (map (note_of names) es) ≡ None
none_among names of_line name n none [] h = refl
none_among names of_line name n none (x ∷ es) h =
    ap₂ (λ b o. cond b (Some x.1) o)
    (other_name of_line x.0.of_line name (get_or names x.0.name []) n x.0.number (none x.0.name [] (All-head (λ (y : Site × ℕ). y.0.name < length names) x es h)))
    (none_among names of_line name n none es (All-tail (λ (y : Site × ℕ). y.0.name < length names) x es h))

pub bound_some : (ks : List (Vec ℕ Global)) (es : List (Site × ℕ)) (of_line : Bool) (name : List ℕ) (i n : ℕ) → AreNumbered (texts ks) es → AreApart (texts ks)
    → Some i ≡ position (λ k. pointwise nat_eq name k.items) ks → lookup (is_site of_line i n) es ≡ noted_bound (subject_of of_line name n) (map (note_of (texts ks)) es)
bound_some ks es of_line name i n numbered apart e =
    let at = position-Some (pointwise nat_eq name) (texts ks) i [] (sym (e ∙ position-texts (pointwise nat_eq name) ks)) in
    found_by_number (texts ks) of_line name i n apart at.0 (sym ((bytes_decides name (get_or (texts ks) i [])).0 at.1)) es numbered

pub bound_none : (ks : List (Vec ℕ Global)) (es : List (Site × ℕ)) (of_line : Bool) (name : List ℕ) (n : ℕ) → AreNumbered (texts ks) es
    → None ≡ position (λ k. pointwise nat_eq name k.items) ks → None ≡ noted_bound (subject_of of_line name n) (map (note_of (texts ks)) es)
bound_none ks es of_line name n numbered e =
    let names = texts ks in
    let p = pointwise nat_eq name in
    let at = position_or_len p names in
    let absent : None ≡ position p names = e ∙ position-texts p ks in
    elim (cases_lt at (length names)) [
      | inl h ↦
          let found : Some at ≡ position p names = cond_below at (length names) (Some at) None h in
          cc
      | inr h ↦ sym (none_among names of_line name n (passed p names h) es numbered)
    ]

-- ---- one name more

-- the bounds stay
pub bounds_stay : (names more : List (List ℕ)) (i : ℕ) (name : List ℕ) → IsGrown names more i name → (es : List (Site × ℕ)) → AreNumbered names es
    → map (note_of more) es ≡ map (note_of names) es
bounds_stay names more i name g [] h = refl
bounds_stay names more i name g (x ∷ es) h =
    ap₂ (λ (n : List ℕ) bs. (record { subject = subject_of x.0.of_line n x.0.number; bound = x.1 }) ∷ bs)
    (g.kept x.0.name (All-head (λ (y : Site × ℕ). y.0.name < length names) x es h))
    (bounds_stay names more i name g es (All-tail (λ (y : Site × ℕ). y.0.name < length names) x es h))

pub still_numbered : (names more : List (List ℕ)) (i : ℕ) (name : List ℕ) → IsGrown names more i name → (es : List (Site × ℕ)) → AreNumbered names es → AreNumbered more es
still_numbered names more i name g es h = All-weaker (λ (y : Site × ℕ). y.0.name < length names) (λ (y : Site × ℕ). y.0.name < length more) (λ x k. omega (arith, k, g.longer)) es h

-- a subject that had no bound isn't found
pub not_found : (names more : List (List ℕ)) (of_line : Bool) (i n : ℕ) (name : List ℕ) → IsGrown names more i name → (es : List (Site × ℕ)) → AreNumbered names es
    → noted_bound (subject_of of_line name n) (map (note_of names) es) ≡ None → lookup (is_site of_line i n) es ≡ None
not_found names more of_line i n name g es h none =
    found_by_number more of_line name i n g.apart g.within g.here es (still_numbered names more i name g es h)
    ∙ ap (noted_bound (subject_of of_line name n)) (bounds_stay names more i name g es h) ∙ none

pub one_numbered : (names more : List (List ℕ)) (of_line : Bool) (i n bound : ℕ) (name : List ℕ) → IsGrown names more i name → (es : List (Site × ℕ)) → AreNumbered names es
    → AreNumbered more (es ++ (record { of_line = of_line; name = i; number = n }, bound) ∷ [])
one_numbered names more of_line i n bound name g es h = All-push (λ (y : Site × ℕ). y.0.name < length more) es _ (still_numbered names more i name g es h) g.within

pub one_bound : (names more : List (List ℕ)) (of_line : Bool) (i n bound : ℕ) (name : List ℕ) → IsGrown names more i name → (es : List (Site × ℕ)) → AreNumbered names es
    → map (note_of more) (es ++ (record { of_line = of_line; name = i; number = n }, bound) ∷ []) ≡ map (note_of names) es ++ (record { subject = subject_of of_line name n; bound = bound }) ∷ []
one_bound names more of_line i n bound name g es h =
    map-append (note_of more) es ((record { of_line = of_line; name = i; number = n }, bound) ∷ [])
    ∙ ap₂ (λ bs (t : List ℕ). bs ++ (record { subject = subject_of of_line t n; bound = bound }) ∷ []) (bounds_stay names more i name g es h) g.here

-- the parts of a subject make it
pub parts_make : (s : Subject) → subject_of (is_line s) (name_of s) (number_of s) ≡ s
parts_make (AtLine file line) = refl
parts_make (AtPlace method pc) = refl
