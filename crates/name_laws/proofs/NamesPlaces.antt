-- Each place of a method has one number.
use Rattle.std.proofs.Common.{◌≡◌, ℕ, zero, suc, ◌+◌, ◌≤◌, Bool, true, false, not, List, [], ◌∷◌, ◌++◌, ◌⊎◌, inl, inr, map, length, Some, refl, sym, ap, ◌∙◌, arith}
use Rattle.std.specs.Prelude.{slice_get, if◌then◌else◌}
use Rattle.std.specs.List.{filter, flat_map, enumerate_from, range_with_len}
use Rattle.std.proofs.lemmas.Bool.{false≢true, both_ways, not-true, or_cases}
use Rattle.std.proofs.lemmas.List.Folds.{list_any-append}
use Rattle.lists.proofs.Lemmas.{none≢some, some_same}
use Rattle.class_pool.specs.declared.class.Member.{Member}
use Rattle.class_pool.specs.declared.class.ClassFile.{ClassFile}
use Rattle.class_lookup.specs.Lookup.{Place, same_place}
use Rattle.program_tables.specs.Numbers.{places_of, is_coded, methods_by_number}
use Rattle.program_laws.proofs.Places.{has, has_head, has_tail, has_cases}
use Rattle.program_laws.proofs.Numbering.{place_has}

-- ---- lists in which no place stands twice

abbrev AreApart : List Place → Type 0
AreApart [] = Unit {0}
AreApart (p ∷ ps) = (has ps p ≡ true → ⊥) × AreApart ps

one_index : (ps : List Place) (i j : ℕ) (p : Place) → AreApart ps → slice_get ps i ≡ Some p → slice_get ps j ≡ Some p → i ≡ j
one_index [] i j p apart h e = absurd (none≢some p h)
one_index (q ∷ ps) zero zero p apart h e = refl
one_index (q ∷ ps) zero (suc j) p apart h e = absurd (apart.0 (ap (has ps) (some_same q p h) ∙ place_has ps j p e))
one_index (q ∷ ps) (suc i) zero p apart h e = absurd (apart.0 (ap (has ps) (some_same q p e) ∙ place_has ps i p h))
one_index (q ∷ ps) (suc i) (suc j) p apart h e = ap suc (one_index ps i j p apart.1 h e)

in_either : (xs ys : List Place) (p : Place) → has (xs ++ ys) p ≡ true → (has xs p ≡ true) ⊎ (has ys p ≡ true)
in_either xs ys p h = or_cases (has xs p) (has ys p) (sym (list_any-append (same_place p) xs ys) ∙ h)

apart_append : (xs ys : List Place) → AreApart xs → AreApart ys → ((p : Place) → has xs p ≡ true → has ys p ≡ true → ⊥) → AreApart (xs ++ ys)
apart_append [] ys a b never = b
apart_append (x ∷ xs) ys a b never = (
  (λ h. elim (in_either xs ys x h) [ inl e ↦ a.0 e | inr e ↦ never x (has_head x xs) e ]),
  apart_append xs ys a.1 b (λ p h e. never p (has_tail x p xs h) e),
)

-- ---- the places that pass a test

passed_case : (test : Place → Bool) (x : Place) (xs : List Place) (p : Place) (b : Bool) → test x ≡ b
    → (has (filter test xs) p ≡ true → (has xs p ≡ true) × (test p ≡ true)) → has (if b then x ∷ filter test xs else filter test xs) p ≡ true
    → (has (x ∷ xs) p ≡ true) × (test p ≡ true)
passed_case test x xs p true t later h =
    elim (has_cases x p (filter test xs) h) [
      | inl e ↦ (ap (has (x ∷ xs)) e ∙ has_head x xs, ap test e ∙ t)
      | inr e ↦ (has_tail x p xs (later e).0, (later e).1)
    ]
passed_case test x xs p false t later h = (has_tail x p xs (later h).0, (later h).1)

passed : (test : Place → Bool) (xs : List Place) (p : Place) → has (filter test xs) p ≡ true → (has xs p ≡ true) × (test p ≡ true)
passed test [] p h = absurd (false≢true h)
passed test (x ∷ xs) p h = passed_case test x xs p (test x) refl (passed test xs p) h

filter_case : (test : Place → Bool) (x : Place) (xs : List Place) (b : Bool) → AreApart (x ∷ xs) → AreApart (filter test xs)
    → AreApart (if b then x ∷ filter test xs else filter test xs)
filter_case test x xs true apart later = ((λ h. apart.0 (passed test xs x h).0), later)
filter_case test x xs false apart later = later

apart_filter : (test : Place → Bool) (xs : List Place) → AreApart xs → AreApart (filter test xs)
apart_filter test [] apart = tt
apart_filter test (x ∷ xs) apart = filter_case test x xs (test x) apart (apart_filter test xs apart.1)

-- ---- the places of all members

from_range : (c n a : ℕ) (p : Place) → has (map (λ i. (c, i)) (range_with_len a n)) p ≡ true → (p.0 ≡ c) × (a ≤ p.1)
from_range c zero a p h = absurd (false≢true h)
from_range c (suc n) a p h =
    elim (has_cases (c, a) p (map (λ i. (c, i)) (range_with_len (a + 1) n)) h) [
      | inl e ↦ let same : p.1 ≡ a = ap (λ (x : Place). x.1) e in (ap (λ (x : Place). x.0) e, omega (arith, same))
      | inr e ↦ let r = from_range c n (a + 1) p e in let le = r.1 in (r.0, omega (arith, le))
    ]

apart_range : (c n a : ℕ) → AreApart (map (λ i. (c, i)) (range_with_len a n))
apart_range c zero a = tt
apart_range c (suc n) a = (
  (λ h. let r = from_range c n (a + 1) (c, a) h in let le : a + 1 ≤ a = r.1 in absurd (omega (arith, le))),
  apart_range c n (a + 1),
)

from_class : (members : ClassFile → List Member) (n : ℕ) (cs : List ClassFile) (p : Place)
    → has (flat_map (λ e. map (λ i. (e.0, i)) (range_with_len 0 (length (members e.1)))) (enumerate_from n cs)) p ≡ true → n ≤ p.0
from_class members n [] p h = absurd (false≢true h)
from_class members n (c ∷ cs) p h =
    let F : ℕ × ClassFile → List Place = λ e. map (λ i. (e.0, i)) (range_with_len 0 (length (members e.1))) in
    elim (in_either (F (n, c)) (flat_map F (enumerate_from (n + 1) cs)) p h) [
      | inl e ↦ let own = (from_range n (length (members c)) 0 p e).0 in omega (arith, own)
      | inr e ↦ let later = from_class members (n + 1) cs p e in omega (arith, later)
    ]

apart_places : (members : ClassFile → List Member) (n : ℕ) (cs : List ClassFile)
    → AreApart (flat_map (λ e. map (λ i. (e.0, i)) (range_with_len 0 (length (members e.1)))) (enumerate_from n cs))
apart_places members n [] = tt
apart_places members n (c ∷ cs) =
    let F : ℕ × ClassFile → List Place = λ e. map (λ i. (e.0, i)) (range_with_len 0 (length (members e.1))) in
    apart_append (F (n, c)) (flat_map F (enumerate_from (n + 1) cs)) (apart_range n (length (members c)) 0) (apart_places members (n + 1) cs) (λ p h e.
    let own = (from_range n (length (members c)) 0 p h).0 in
    let later = from_class members (n + 1) cs p e in
    absurd (omega (arith, own, later)))

-- ---- numbers

pub one_number : (cs : List ClassFile) (m n : ℕ) (p : Place) → slice_get (methods_by_number cs) m ≡ Some p → slice_get (methods_by_number cs) n ≡ Some p → m ≡ n
unfolding methods_by_number
one_number cs m n p h e =
    let all = places_of (λ c. c.methods) cs in
    let apart = apart_places (λ c. c.methods) 0 cs in
    let other : Place → Bool = λ q. not (is_coded cs q) in
    let once : AreApart (methods_by_number cs) =
    apart_append (filter (is_coded cs) all) (filter other all) (apart_filter (is_coded cs) all apart) (apart_filter other all apart) (λ q a b.
    both_ways (is_coded cs q) (not-true (is_coded cs q) (passed other all q b).1) (passed (is_coded cs) all q a).1) in
    one_index (methods_by_number cs) m n p once h e
