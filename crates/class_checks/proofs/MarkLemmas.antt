-- Marks of classes, taken away method by method and class by class.
use Rattle.std.proofs.Common.{◌≡◌, ℕ, zero, suc, ◌+◌, ◌<◌, ◌≤◌, eqb, Bool, true, false, not, ◌&&◌, ◌||◌, List, [], ◌∷◌, ◌++◌, take, map, length, get_or, set, replicate, Option, Some, None, ◌⊎◌, inl, inr, refl, sym, ap, ap₂, ◌∙◌, subst, arith}
use Rattle.std.specs.Prelude.{slice_get, if◌then◌else◌}
use Rattle.std.specs.Option.{option_map_or}
use Rattle.std.specs.List.{filter, flat_map, list_all, list_any, range_with_len}
use Rattle.std.proofs.lemmas.Bool.{cases_eq, or_cases, eqb-true, false≢true, and_parts, and_from}
use Rattle.std.proofs.lemmas.Bool.Decides.{eqb_tells}
use Rattle.std.specs.Prelude.{Result, Ok, Err, OnOk}
use Rattle.std.proofs.lemmas.List.{get_or-set_same, get_or-set_other, length-set}
use Rattle.std.proofs.lemmas.List.Folds.{list_any_more, list_all-append}
use Rattle.std.proofs.lemmas.List.FromFn.{map-range_with_len_more}
use Rattle.std.proofs.lemmas.Option.{slice_get_cases, slice_get_within}
use Rattle.lists.specs.Numbers.{is_among}
use Rattle.lists.proofs.Among.{among_at}
use Rattle.lists.proofs.Reached.{in_append}
use Rattle.class_pool.specs.declared.class.ClassFile.{ClassFile}
use Rattle.class_lookup.specs.Hierarchy.{extends, supertypes, is_concrete}
use Rattle.class_lookup.specs.Lookup.{Place}
use Rattle.class_lookup.specs.Parts.{is_abstract, is_abstract_class}
use Rattle.class_lookup.specs.Selection.{is_method_with}
use Rattle.program_tables.specs.Unresolved.{abstract_methods_in, is_implemented, implements_all}
use Rattle.class_checks.specs.Marks.{AreKept}

-- ---- tests

and_true : (b : Bool) → b ≡ (b && true)
and_true true = refl
and_true false = refl

or_true : (b : Bool) → (b || true) ≡ true
or_true true = refl
or_true false = refl

and_assoc : (a b c : Bool) → ((a && b) && c) ≡ (a && (b && c))
and_assoc true b c = refl
and_assoc false b c = refl

eqb_self : (n : ℕ) → eqb n n ≡ true
eqb_self n = elim (eqb_tells n n) [ inl e ↦ e.0 | inr e ↦ absurd (e.1 refl) ]

both_ways : (a b : Bool) → (a ≡ true → b ≡ true) → (b ≡ true → a ≡ true) → a ≡ b
both_ways true b f g = sym (f refl)
both_ways false true f g = g refl
both_ways false false f g = refl

-- ---- marks

pub kept_all : (holds : ℕ → Bool) (marks : List Bool) → ((c : ℕ) → holds c ≡ true) → AreKept holds marks marks
kept_all holds marks h = record { long = refl; each = λ c. and_true (get_or marks c false) ∙ ap (λ b. get_or marks c false && b) (sym (h c)) }

pub kept_more : (p q r : ℕ → Bool) (old mid new : List Bool) → AreKept p old mid → AreKept q mid new → ((c : ℕ) → (p c && q c) ≡ r c) → AreKept r old new
kept_more p q r old mid new h k e = record {
  long = k.long ∙ h.long;
  each = λ c. k.each c ∙ (ap (λ b. b && q c) (h.each c) ∙ (and_assoc (get_or old c false) (p c) (q c) ∙ ap (λ b. get_or old c false && b) (e c)));
}

pub kept_same : (p q : ℕ → Bool) (old new : List Bool) → AreKept p old new → ((c : ℕ) → p c ≡ q c) → AreKept q old new
kept_same p q old new h e = record { long = h.long; each = λ c. h.each c ∙ ap (λ b. get_or old c false && b) (e c) }

-- ---- one method, class by class

-- what was made of the number at a place
pub read_mapped : (f : ℕ → Option Place) (lower : List ℕ) (i : ℕ) (x : Option Place) → i < length lower → x ≡ get_or (map f lower) i x → x ≡ f (get_or lower i 0)
read_mapped f [] i x lt e = absurd (omega (arith, lt))
read_mapped f (n ∷ lower) zero x lt e = e
read_mapped f (n ∷ lower) (suc i) x lt e = read_mapped f lower i x (omega (arith, lt)) e

with_code_case : (a e m : Bool) → (e ≡ true → m ≡ true) → (not a || m) ≡ (not (a || e) || m)
with_code_case true e m h = refl
with_code_case false true m h = sym (h refl)
with_code_case false false m h = refl

among_more : (lower : List ℕ) (i c : ℕ) → i < length lower → is_among (take (i + 1) lower) c ≡ (is_among (take i lower) c || eqb (get_or lower i 0) c)
among_more lower i c lt = list_any_more (λ k. eqb k c) lower i 0 lt

pub kept_with_code : (implemented : ℕ → Bool) (lower : List ℕ) (i : ℕ) (old new : List Bool) → i < length lower → implemented (get_or lower i 0) ≡ true → AreKept (λ c. not (is_among (take i lower) c) || implemented c) old new
    → AreKept (λ c. not (is_among (take (i + 1) lower) c) || implemented c) old new
kept_with_code implemented lower i old new lt code h =
    kept_same (λ c. not (is_among (take i lower) c) || implemented c) (λ c. not (is_among (take (i + 1) lower) c) || implemented c) old new h
    (λ c. with_code_case (is_among (take i lower) c) (eqb (get_or lower i 0) c) (implemented c) (λ e. ap implemented (sym (eqb-true (get_or lower i 0) c e)) ∙ code)
    ∙ ap (λ b. not b || implemented c) (sym (among_more lower i c lt)))

without_code_case : (o a e m : Bool) → e ≡ true → m ≡ false → false ≡ (o && (not (a || e) || m))
without_code_case true true true false h k = refl
without_code_case true false true false h k = refl
without_code_case false a true false h k = refl
without_code_case o a false m h k = absurd (false≢true h)
without_code_case o a true true h k = absurd (false≢true (sym k))

pub kept_without_code : (implemented : ℕ → Bool) (lower : List ℕ) (i : ℕ) (old new : List Bool) → i < length lower → implemented (get_or lower i 0) ≡ false → get_or lower i 0 < length new → AreKept (λ c. not (is_among (take i lower) c) || implemented c) old new
    → AreKept (λ c. not (is_among (take (i + 1) lower) c) || implemented c) old (set new (get_or lower i 0) false)
kept_without_code implemented lower i old new lt none within h =
    let n = get_or lower i 0 in
    record {
      long = length-set new n false ∙ h.long;
      each = λ c. elim (cases_eq c n) [
        | inl same ↦
            subst (λ k. get_or (set new n false) k false ≡ (get_or old k false && (not (is_among (take (i + 1) lower) k) || implemented k))) (sym same)
            (get_or-set_same new n false false within
            ∙ (without_code_case (get_or old n false) (is_among (take i lower) n) (eqb n n) (implemented n) (eqb_self n) none
            ∙ ap (λ b. get_or old n false && (not b || implemented n)) (sym (among_more lower i n lt))))
        | inr other ↦
            get_or-set_other new n c false false other
            ∙ (h.each c ∙ ap (λ b. get_or old c false && b)
            (with_code_case (is_among (take i lower) c) (eqb n c) (implemented c) (λ e. absurd (other (sym (eqb-true n c e)))) ∙ ap (λ b. not b || implemented c) (sym (among_more lower i c lt))))
      ];
    }

-- ---- those that are left

left_case : (o a m : Bool) → (o && (not (a && o) || m)) ≡ (o && (not a || m))
left_case true true m = refl
left_case true false m = refl
left_case false a m = refl

pub kept_of_left : (implemented : ℕ → Bool) (lower left : List ℕ) (old new : List Bool) (is_one : Bool) → is_one ≡ true → ((c : ℕ) → is_among left c ≡ (is_among lower c && get_or old c false))
    → AreKept (λ c. not (is_among left c) || implemented c) old new → AreKept (λ c. not (is_among lower c) || (not is_one || implemented c)) old new
kept_of_left implemented lower left old new false one l h = absurd (false≢true one)
kept_of_left implemented lower left old new true one l h = record {
  long = h.long;
  each = λ c. h.each c ∙ (ap (λ b. get_or old c false && (not b || implemented c)) (l c) ∙ left_case (get_or old c false) (is_among lower c) (implemented c));
}

pub kept_of_other : (implemented : ℕ → Bool) (lower : List ℕ) (marks : List Bool) (is_one : Bool) → is_one ≡ false → AreKept (λ c. not (is_among lower c) || (not is_one || implemented c)) marks marks
kept_of_other implemented lower marks true one = absurd (false≢true (sym one))
kept_of_other implemented lower marks false one = kept_all (λ c. not (is_among lower c) || (true || implemented c)) marks (λ c. or_true (not (is_among lower c)))

pub left_below : (lower left : List ℕ) (old : List Bool) (most : ℕ) → ((c : ℕ) → is_among left c ≡ (is_among lower c && get_or old c false)) → ((c : ℕ) → is_among lower c ≡ true → c < most) → (c : ℕ) → is_among left c ≡ true → c < most
left_below lower left old most l below c h = below c (and_parts (is_among lower c) (get_or old c false) (sym (l c) ∙ h)).0

pub left_at : (lower left : List ℕ) (old : List Bool) (most : ℕ) → ((c : ℕ) → is_among left c ≡ (is_among lower c && get_or old c false)) → ((c : ℕ) → is_among lower c ≡ true → c < most) → (i : ℕ) → i < length left → get_or left i 0 < most
left_at lower left old most l below i lt = left_below lower left old most l below (get_or left i 0) (among_at left i lt)

abbrev pub IsLeft : (lower : List ℕ) → (marks : List Bool) → (found : List ℕ) → Type 0
IsLeft lower marks found = (c : ℕ) → is_among found c ≡ (is_among lower c && get_or marks c false)

put_case : (a e k : Bool) → (e ≡ true → k ≡ true) → ((a && k) || (e || false)) ≡ ((a || e) && k)
put_case true true true h = refl
put_case true true false h = absurd (false≢true (h refl))
put_case true false true h = refl
put_case true false false h = refl
put_case false true true h = refl
put_case false true false h = absurd (false≢true (h refl))
put_case false false k h = refl

pub left_more : (lower found : List ℕ) (i : ℕ) (marks : List Bool) → i < length lower → get_or marks (get_or lower i 0) false ≡ true → IsLeft (take i lower) marks found → IsLeft (take (i + 1) lower) marks (found ++ get_or lower i 0 ∷ [])
left_more lower found i marks lt marked h c =
    let n = get_or lower i 0 in
    in_append found (n ∷ []) c
    ∙ (ap (λ b. b || (eqb n c || false)) (h c)
    ∙ (put_case (is_among (take i lower) c) (eqb n c) (get_or marks c false) (λ e. ap (λ k. get_or marks k false) (sym (eqb-true n c e)) ∙ marked)
    ∙ ap (λ b. b && get_or marks c false) (sym (among_more lower i c lt))))

pass_case : (a e k : Bool) → (e ≡ true → k ≡ false) → (a && k) ≡ ((a || e) && k)
pass_case true e k h = refl
pass_case false true k h = sym (h refl)
pass_case false false k h = refl

pub left_same : (lower found : List ℕ) (i : ℕ) (marks : List Bool) → i < length lower → get_or marks (get_or lower i 0) false ≡ false → IsLeft (take i lower) marks found → IsLeft (take (i + 1) lower) marks found
left_same lower found i marks lt marked h c =
    let n = get_or lower i 0 in
    h c
    ∙ (pass_case (is_among (take i lower) c) (eqb n c) (get_or marks c false) (λ e. ap (λ k. get_or marks k false) (sym (eqb-true n c e)) ∙ marked)
    ∙ ap (λ b. b && get_or marks c false) (sym (among_more lower i c lt)))

-- ---- numbers that pass a test, from 0 on

pub record AreFound (test : ℕ → Bool) (most : ℕ) (found : List ℕ) : Type 0 where
  pub is : (c : ℕ) → is_among found c ≡ true → (c < most) × (test c ≡ true)
  pub all : (c : ℕ) → c < most → test c ≡ true → is_among found c ≡ true

pub found_none : (test : ℕ → Bool) (found : List ℕ) → found ≡ [] → AreFound test 0 found
found_none test found e = subst (AreFound test 0) (sym e) (record { is = λ c h. absurd (false≢true h); all = λ c lt t. absurd (omega (arith, lt)) })

one_is : (n c : ℕ) → is_among (n ∷ []) c ≡ true → n ≡ c
one_is n c h = elim (or_cases (eqb n c) false h) [ inl e ↦ eqb-true n c e | inr e ↦ absurd (false≢true e) ]

one_in : (n : ℕ) → is_among (n ∷ []) n ≡ true
one_in n = ap (λ b. b || false) (eqb_self n)

or_left : (a b : Bool) → a ≡ true → (a || b) ≡ true
or_left a b h = ap (λ x. x || b) h

or_right : (a b : Bool) → b ≡ true → (a || b) ≡ true
or_right a b h = ap (λ x. a || x) h ∙ or_true a

pub found_more : (test : ℕ → Bool) (n : ℕ) (found : List ℕ) → test n ≡ true → AreFound test n found → AreFound test (n + 1) (found ++ n ∷ [])
found_more test n found t h = record {
  is = λ c a. elim (or_cases (is_among found c) (is_among (n ∷ []) c) (sym (in_append found (n ∷ []) c) ∙ a)) [
    | inl e ↦ let r = h.is c e in (let l = r.0 in omega (arith, l), r.1)
    | inr e ↦ let same = one_is n c e in (omega (arith, same), ap test (sym same) ∙ t)
  ];
  all = λ c lt p. in_append found (n ∷ []) c ∙ elim (cases_eq c n) [
    | inl same ↦ or_right (is_among found c) (is_among (n ∷ []) c) (ap (is_among (n ∷ [])) same ∙ one_in n)
    | inr other ↦ or_left (is_among found c) (is_among (n ∷ []) c) (h.all c (omega (arith, lt, other)) p)
  ];
}

pub found_same : (test : ℕ → Bool) (n : ℕ) (found : List ℕ) → test n ≡ false → AreFound test n found → AreFound test (n + 1) found
found_same test n found t h = record {
  is = λ c a. let r = h.is c a in (let l = r.0 in omega (arith, l), r.1);
  all = λ c lt p. elim (cases_eq c n) [
    | inl same ↦ absurd (false≢true (sym t ∙ (ap test (sym same) ∙ p)))
    | inr other ↦ h.all c (omega (arith, lt, other)) p
  ];
}

concrete_within : (cs : List ClassFile) (c : ℕ) → is_concrete cs c ≡ true → c < length cs
concrete_within cs c h = elim (slice_get_cases cs c).1 [
  | inl w ↦ slice_get_within cs c w.0 w.2
  | inr w ↦ absurd (false≢true (sym (ap (λ (o : Option ClassFile). option_map_or (λ k. not (is_abstract_class k)) o false) w.1) ∙ h))
]

pub found_below : (cs : List ClassFile) (upper : ℕ) (found : List ℕ) → AreFound (λ c. is_concrete cs c && extends cs c upper) (length cs) found → (c : ℕ) → is_among found c ≡ (is_concrete cs c && extends cs c upper)
found_below cs upper found h c =
    both_ways (is_among found c) (is_concrete cs c && extends cs c upper) (λ a. (h.is c a).1) (λ t. h.all c (concrete_within cs c (and_parts (is_concrete cs c) (extends cs c upper) t).0) t)

pub lower_within : (cs : List ClassFile) (upper : ℕ) (found : List ℕ) → ((c : ℕ) → is_among found c ≡ (is_concrete cs c && extends cs c upper)) → (c : ℕ) → is_among found c ≡ true → c < length cs
lower_within cs upper found h c a = concrete_within cs c (and_parts (is_concrete cs c) (extends cs c upper) (sym (h c) ∙ a)).0

-- ---- the methods of a class

each_passes : {A : Type 0} (p : A → Bool) (xs : List A) → list_all p xs ≡ list_all (λ b. b) (map p xs)
each_passes p [] = refl
each_passes p (x ∷ xs) = ap (λ b. p x && b) (each_passes p xs)

pub all_more : (p : ℕ → Bool) (n : ℕ) → list_all p (range_with_len 0 (n + 1)) ≡ (list_all p (range_with_len 0 n) && p n)
all_more p n =
    each_passes p (range_with_len 0 (n + 1))
    ∙ (ap (list_all (λ b. b)) (map-range_with_len_more p 0 n n (omega arith))
    ∙ (list_all-append (λ b. b) (map p (range_with_len 0 n)) (p n ∷ [])
    ∙ ap₂ (λ x y. x && y) (sym (each_passes p (range_with_len 0 n))) (sym (and_true (p n)))))

pub kept_nothing : (below : ℕ → Bool) (test : ℕ → ℕ → Bool) (marks : List Bool) → AreKept (λ c. not (below c) || list_all (test c) (range_with_len 0 0)) marks marks
kept_nothing below test marks = kept_all (λ c. not (below c) || true) marks (λ c. or_true (not (below c)))

more_case : (b l t : Bool) → ((not b || l) && (not b || t)) ≡ (not b || (l && t))
more_case true l t = refl
more_case false l t = refl

pub kept_one_more : (below among : ℕ → Bool) (test : ℕ → ℕ → Bool) (n : ℕ) (old mid new : List Bool) → ((c : ℕ) → among c ≡ below c) → AreKept (λ c. not (below c) || list_all (test c) (range_with_len 0 n)) old mid → AreKept (λ c. not (among c) || test c n) mid new
    → AreKept (λ c. not (below c) || list_all (test c) (range_with_len 0 (n + 1))) old new
kept_one_more below among test n old mid new same h k =
    kept_more (λ c. not (below c) || list_all (test c) (range_with_len 0 n)) (λ c. not (among c) || test c n) (λ c. not (below c) || list_all (test c) (range_with_len 0 (n + 1))) old mid new h k
    (λ c. ap (λ b. (not (below c) || list_all (test c) (range_with_len 0 n)) && (not b || test c n)) (same c)
    ∙ (more_case (below c) (list_all (test c) (range_with_len 0 n)) (test c n) ∙ ap (λ b. not (below c) || b) (sym (all_more (test c) n))))

-- by their numbers
filter_case : (p q : Place → Bool) (x : Place) (xs : List Place) (b : Bool) → list_all p (filter q xs) ≡ list_all (λ z. not (q z) || p z) xs → list_all p (if b then x ∷ filter q xs else filter q xs) ≡ ((not b || p x) && list_all (λ z. not (q z) || p z) xs)
filter_case p q x xs true h = ap (λ (b : Bool). p x && b) h
filter_case p q x xs false h = h

all_filtered : (p q : Place → Bool) (xs : List Place) → list_all p (filter q xs) ≡ list_all (λ z. not (q z) || p z) xs
all_filtered p q [] = refl
all_filtered p q (x ∷ xs) = filter_case p q x xs (q x) (all_filtered p q xs)

all_mapped : {A : Type 0} (p : Place → Bool) (f : A → Place) (xs : List A) → list_all p (map f xs) ≡ list_all (λ x. p (f x)) xs
all_mapped p f [] = refl
all_mapped p f (x ∷ xs) = ap (λ (b : Bool). p (f x) && b) (all_mapped p f xs)

numbered_case : (p : Place → Bool) (upper : ℕ) (o : Option ClassFile)
    → list_all (λ i. p (upper, i)) (range_with_len 0 (option_map_or (λ (k : ClassFile). length k.methods) o 0))
    ≡ list_all p (option_map_or (λ (k : ClassFile). map (λ i. (upper, i)) (range_with_len 0 (length k.methods))) o [])
numbered_case p upper None = refl
numbered_case p upper (Some k) = sym (all_mapped p (λ i. (upper, i)) (range_with_len 0 (length k.methods)))

abbrev pub settled : List ClassFile → (upper c i : ℕ) → Bool
settled cs upper c i = not (is_method_with is_abstract cs (upper, i)) || is_implemented cs c (upper, i)

pub each_implemented : (cs : List ClassFile) (c upper : ℕ)
    → list_all (settled cs upper c) (range_with_len 0 (option_map_or (λ (k : ClassFile). length k.methods) (slice_get cs upper) 0))
    ≡ list_all (is_implemented cs c) (abstract_methods_in cs upper)
each_implemented cs c upper =
    numbered_case (λ (z : Place). not (is_method_with is_abstract cs z) || is_implemented cs c z) upper (slice_get cs upper)
    ∙ sym (all_filtered (is_implemented cs c) (is_method_with is_abstract cs) (option_map_or (λ (k : ClassFile). map (λ i. (upper, i)) (range_with_len 0 (length k.methods))) (slice_get cs upper) []))

pub kept_of_class : (cs : List ClassFile) (below : ℕ → Bool) (upper count : ℕ) (old new : List Bool) → count ≡ option_map_or (λ (k : ClassFile). length k.methods) (slice_get cs upper) 0
    → AreKept (λ c. not (below c) || list_all (settled cs upper c) (range_with_len 0 count)) old new → AreKept (λ c. not (below c) || list_all (is_implemented cs c) (abstract_methods_in cs upper)) old new
kept_of_class cs below upper count old new e h =
    kept_same (λ c. not (below c) || list_all (settled cs upper c) (range_with_len 0 count)) (λ c. not (below c) || list_all (is_implemented cs c) (abstract_methods_in cs upper)) old new h
    (λ c. ap (λ b. not (below c) || b) (ap (λ n. list_all (settled cs upper c) (range_with_len 0 n)) e ∙ each_implemented cs c upper))

-- none of them is abstract
none_case : (a m rest : Bool) → (a || false) ≡ false → rest ≡ true → ((not a || m) && rest) ≡ true
none_case false m rest h k = k
none_case true m rest h k = absurd (false≢true (sym h))

or_first : (a b : Bool) → (a || b) ≡ false → (a || false) ≡ false
or_first false b h = refl
or_first true b h = h

or_second : (a b : Bool) → (a || b) ≡ false → b ≡ false
or_second false b h = h
or_second true b h = absurd (false≢true (sym h))

none_abstract : (test : ℕ → Bool) (implemented : ℕ → Bool) (xs : List ℕ) → list_any test xs ≡ false → list_all (λ i. not (test i) || implemented i) xs ≡ true
none_abstract test implemented [] h = refl
none_abstract test implemented (x ∷ xs) h =
    none_case (test x) (implemented x) (list_all (λ i. not (test i) || implemented i) xs) (or_first (test x) (list_any test xs) h)
    (none_abstract test implemented xs (or_second (test x) (list_any test xs) h))

pub kept_without_abstract : (cs : List ClassFile) (below : ℕ → Bool) (upper count : ℕ) (marks : List Bool) → count ≡ option_map_or (λ (k : ClassFile). length k.methods) (slice_get cs upper) 0
    → list_any (λ i. is_method_with is_abstract cs (upper, i)) (range_with_len 0 count) ≡ false → AreKept (λ c. not (below c) || list_all (is_implemented cs c) (abstract_methods_in cs upper)) marks marks
kept_without_abstract cs below upper count marks e none =
    kept_of_class cs below upper count marks marks e
    (kept_all (λ c. not (below c) || list_all (settled cs upper c) (range_with_len 0 count)) marks
    (λ c. or_right (not (below c)) (list_all (settled cs upper c) (range_with_len 0 count)) (none_abstract (λ i. is_method_with is_abstract cs (upper, i)) (λ i. is_implemented cs c (upper, i)) (range_with_len 0 count) none)))

-- ---- all classes

abbrev pub passes : List ClassFile → (c upper : ℕ) → Bool
passes cs c upper = list_all (is_implemented cs c) (abstract_methods_in cs upper)

-- as far as the classes were gone through
abbrev pub passed : List ClassFile → (c upper : ℕ) → Bool
passed cs c upper = not (is_concrete cs c) || (not (extends cs c upper) || passes cs c upper)

passed_case : (a b p : Bool) → (not (a && b) || p) ≡ (not a || (not b || p))
passed_case true b p = refl
passed_case false b p = refl

pub kept_next_class : (cs : List ClassFile) (n : ℕ) (old mid new : List Bool) → AreKept (λ c. list_all (passed cs c) (range_with_len 0 n)) old mid → AreKept (λ c. not (is_concrete cs c && extends cs c n) || passes cs c n) mid new
    → AreKept (λ c. list_all (passed cs c) (range_with_len 0 (n + 1))) old new
kept_next_class cs n old mid new h k =
    kept_more (λ c. list_all (passed cs c) (range_with_len 0 n)) (λ c. not (is_concrete cs c && extends cs c n) || passes cs c n) (λ c. list_all (passed cs c) (range_with_len 0 (n + 1))) old mid new h k
    (λ c. ap (λ b. list_all (passed cs c) (range_with_len 0 n) && b) (passed_case (is_concrete cs c) (extends cs c n) (passes cs c n)) ∙ sym (all_more (passed cs c) n))

pub kept_no_class : (cs : List ClassFile) (marks : List Bool) → AreKept (λ c. list_all (passed cs c) (range_with_len 0 0)) marks marks
kept_no_class cs marks = kept_all (λ c. true) marks (λ c. refl)

-- what holds of all numbers of a range, and of all of a list
all_below : (p : ℕ → Bool) (n d : ℕ) → list_all p (range_with_len 0 n) ≡ true → d < n → p d ≡ true
all_below p zero d h lt = absurd (omega (arith, lt))
all_below p (suc n) d h lt =
    let next : n + 1 ≡ suc n = omega arith in
    let parts = and_parts (list_all p (range_with_len 0 n)) (p n) (sym (all_more p n) ∙ (ap (λ k. list_all p (range_with_len 0 k)) next ∙ h)) in
    elim (cases_eq d n) [ inl same ↦ ap p same ∙ parts.1 | inr other ↦ all_below p n d parts.0 (omega (arith, lt, other)) ]

below_all : (p : ℕ → Bool) (n : ℕ) → ((d : ℕ) → d < n → p d ≡ true) → list_all p (range_with_len 0 n) ≡ true
below_all p zero h = refl
below_all p (suc n) h =
    let next : suc n ≡ n + 1 = omega arith in
    ap (λ k. list_all p (range_with_len 0 k)) next ∙ (all_more p n ∙ and_from (list_all p (range_with_len 0 n)) (p n) (below_all p n (λ d lt. h d (omega (arith, lt)))) (h n (omega arith)))

all_among : (p : ℕ → Bool) (xs : List ℕ) (d : ℕ) → list_all p xs ≡ true → is_among xs d ≡ true → p d ≡ true
all_among p [] d h a = absurd (false≢true a)
all_among p (x ∷ xs) d h a =
    let parts = and_parts (p x) (list_all p xs) h in
    elim (or_cases (eqb x d) (is_among xs d) a) [ inl e ↦ ap p (sym (eqb-true x d e)) ∙ parts.0 | inr e ↦ all_among p xs d parts.1 e ]

among_all : (p : ℕ → Bool) (xs : List ℕ) → ((d : ℕ) → is_among xs d ≡ true → p d ≡ true) → list_all p xs ≡ true
among_all p [] h = refl
among_all p (x ∷ xs) h =
    and_from (p x) (list_all p xs) (h x (or_left (eqb x x) (is_among xs x) (eqb_self x))) (among_all p xs (λ d e. h d (or_right (eqb x d) (is_among xs d) e)))

implies_from : (a b : Bool) → (a ≡ true → b ≡ true) → (not a || b) ≡ true
implies_from true b h = h refl
implies_from false b h = refl

implies_to : (a b : Bool) → (not a || b) ≡ true → a ≡ true → b ≡ true
implies_to true b h e = h
implies_to false b h e = absurd (false≢true e)

-- what is no class has no methods
past_passes : (cs : List ClassFile) (c d : ℕ) → length cs ≤ d → passes cs c d ≡ true
past_passes cs c d g = elim (slice_get_cases cs d).1 [
  | inl w ↦ let lt = slice_get_within cs d w.0 w.2 in absurd (omega (arith, lt, g))
  | inr w ↦ ap (λ (o : Option ClassFile). list_all (is_implemented cs c) (filter (is_method_with is_abstract cs) (option_map_or (λ k. map (λ i. (d, i)) (range_with_len 0 (length k.methods))) o []))) w.1
]

all_of_both : (p : Place → Bool) (xs ys : List Place) → list_all p (xs ++ ys) ≡ (list_all p xs && list_all p ys)
all_of_both p xs ys = list_all-append p xs ys

all_of_parts : (p : Place → Bool) (f : ℕ → List Place) (xs : List ℕ) → list_all p (flat_map f xs) ≡ list_all (λ x. list_all p (f x)) xs
all_of_parts p f [] = refl
all_of_parts p f (x ∷ xs) = all_of_both p (f x) (flat_map f xs) ∙ ap (λ b. list_all p (f x) && b) (all_of_parts p f xs)

within : (cs : List ClassFile) (d : ℕ) → (d < length cs) ⊎ (length cs ≤ d)
within cs d = elim (slice_get_cases cs d).1 [ inl w ↦ inl (slice_get_within cs d w.0 w.2) | inr w ↦ inr w.0 ]

above_all : (cs : List ClassFile) (c : ℕ) → list_all (λ d. not (extends cs c d) || passes cs c d) (range_with_len 0 (length cs)) ≡ list_all (passes cs c) (supertypes cs c)
above_all cs c =
    both_ways (list_all (λ d. not (extends cs c d) || passes cs c d) (range_with_len 0 (length cs))) (list_all (passes cs c) (supertypes cs c))
    (λ h. among_all (passes cs c) (supertypes cs c) (λ d a. elim (within cs d) [
      | inl lt ↦ implies_to (extends cs c d) (passes cs c d) (all_below (λ d. not (extends cs c d) || passes cs c d) (length cs) d h lt) a
      | inr g ↦ past_passes cs c d g
    ]))
    (λ h. below_all (λ d. not (extends cs c d) || passes cs c d) (length cs) (λ d lt. implies_from (extends cs c d) (passes cs c d) (all_among (passes cs c) (supertypes cs c) d h)))

concrete_case : (a : Bool) (test : ℕ → Bool) (xs : List ℕ) → list_all (λ d. not a || test d) xs ≡ (not a || list_all test xs)
concrete_case true test xs = refl
concrete_case false test [] = refl
concrete_case false test (x ∷ xs) = concrete_case false test xs

true_at : (n c : ℕ) → c < n → get_or (replicate n true) c false ≡ true
true_at zero c lt = absurd (omega (arith, lt))
true_at (suc n) zero lt = refl
true_at (suc n) (suc c) lt = true_at n c (omega (arith, lt))

pub all_marked : (cs : List ClassFile) (n : ℕ) (old new : List Bool) → old ≡ replicate n true → n ≡ length cs → AreKept (λ c. list_all (passed cs c) (range_with_len 0 (length cs))) old new → (c : ℕ) → c < length cs → get_or new c false ≡ implements_all cs c
all_marked cs n old new e many h c lt =
    h.each c
    ∙ (ap (λ b. b && list_all (passed cs c) (range_with_len 0 (length cs))) (ap (λ xs. get_or xs c false) e ∙ true_at n c (omega (arith, lt, many)))
    ∙ (concrete_case (is_concrete cs c) (λ d. not (extends cs c d) || passes cs c d) (range_with_len 0 (length cs))
    ∙ ap (λ b. not (is_concrete cs c) || b) (above_all cs c ∙ sym (all_of_parts (is_implemented cs c) (abstract_methods_in cs) (supertypes cs c)))))

-- ---- as the code answers

pub on_ok_more : {T E : Type 0} (r : Result T E) (P Q : Type 0) → (P → Q) → OnOk r P → OnOk r Q
on_ok_more (Ok x) P Q f p = f p
on_ok_more (Err e) P Q f p = tt
