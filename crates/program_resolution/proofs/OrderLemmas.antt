-- The order of initialization, class by class.
use Rattle.std.proofs.Common.{◌≡◌, ℕ, zero, suc, ◌+◌, ◌<◌, Bool, true, false, ◌||◌, ◌==◌, List, [], ◌∷◌, ◌++◌, length, drop, get_or, reverse, refl, sym, ap, ap₂, ◌∙◌, arith, eq-eqb}
use Rattle.std.specs.Prelude.{nat_eq, if◌then◌else◌}
use Rattle.std.specs.List.{flat_map, list_any, range_with_len}
use Rattle.std.proofs.lemmas.Bool.{eqb-true}
use Rattle.std.proofs.lemmas.Bool.Decides.{Decides-eqb}
use Rattle.std.proofs.lemmas.List.{reverse-append}
use Rattle.std.proofs.Math.Seq.{drop-cons}
use Rattle.lists.proofs.FirstLemmas.{flat_map-more}
use Rattle.number_sets.specs.Numbers.{with_number}
use Rattle.program_tables.specs.Lists.{distinct, with_item, with_items}
use Rattle.program_tables.proofs.MentionLemmas.{with_items-append, first_mentions}

either_way : (a b : ℕ) → (a == b) ≡ (b == a)
either_way a b = split (a == b) (b == a) refl refl
  where
    split : (p q : Bool) → (a == b) ≡ p → (b == a) ≡ q → p ≡ q
    split true q h i = sym (eq-eqb b a (sym (eqb-true a b h))) ∙ i
    split false true h i = sym h ∙ eq-eqb a b (sym (eqb-true b a i))
    split false false h i = refl

same_test : (x : ℕ) (xs : List ℕ) → list_any (λ k. k == x) xs ≡ list_any (nat_eq x) xs
same_test x [] = refl
same_test x (y ∷ xs) = ap₂ (λ (a b : Bool). a || b) (either_way y x) (same_test x xs)

inserted : (xs : List ℕ) (x : ℕ) → with_number xs x ≡ with_item nat_eq xs x
inserted xs x = ap (λ (b : Bool). if b then xs else xs ++ x ∷ []) (same_test x xs)

-- one number more, from the last on
pub one_inserted : (chain old order new : List ℕ) (i : ℕ) → i < length chain → order ≡ with_items nat_eq old (reverse (drop (suc i) chain)) → new ≡ with_number order (get_or chain i 0)
    → new ≡ with_items nat_eq old (reverse (drop i chain))
one_inserted chain old order new i lt so_far e =
    let x = get_or chain i 0 in
    let rest = drop (suc i) chain in
    e
    ∙ (inserted order x
    ∙ (ap (λ (ys : List ℕ). with_item nat_eq ys x) so_far
    ∙ (sym (with_items-append nat_eq old (reverse rest) (x ∷ []))
    ∙ ap (with_items nat_eq old) (sym (ap reverse (drop-cons chain i 0 lt) ∙ reverse-append (x ∷ []) rest)))))

range_more : (s n : ℕ) → range_with_len s (suc n) ≡ range_with_len s n ++ (s + n) ∷ []
range_more s zero = let e : s ≡ s + 0 = omega arith in ap (λ (k : ℕ). k ∷ []) e
range_more s (suc n) = let e : s + 1 + n ≡ s + suc n = omega arith in ap (λ (ys : List ℕ). s ∷ ys) (range_more (s + 1) n ∙ ap (λ (k : ℕ). range_with_len (s + 1) n ++ k ∷ []) e)

-- one class more
pub one_ordered : (f : ℕ → List ℕ) (order new : List ℕ) (i : ℕ) → order ≡ with_items nat_eq [] (flat_map f (range_with_len 0 i)) → new ≡ with_items nat_eq order (f i) → new ≡ with_items nat_eq [] (flat_map f (range_with_len 0 (i + 1)))
one_ordered f order new i so_far e =
    let z : 0 + i ≡ i = omega arith in
    let n : i + 1 ≡ suc i = omega arith in
    let more : range_with_len 0 (i + 1) ≡ range_with_len 0 i ++ i ∷ [] = ap (range_with_len 0) n ∙ (range_more 0 i ∙ ap (λ (k : ℕ). range_with_len 0 i ++ k ∷ []) z) in
    e
    ∙ (ap (λ (ys : List ℕ). with_items nat_eq ys (f i)) so_far
    ∙ (sym (with_items-append nat_eq [] (flat_map f (range_with_len 0 i)) (f i))
    ∙ ap (with_items nat_eq []) (sym (ap (flat_map f) more ∙ flat_map-more f (range_with_len 0 i) i))))

pub all_ordered : (f : ℕ → List ℕ) (order : List ℕ) (i n : ℕ) → order ≡ with_items nat_eq [] (flat_map f (range_with_len 0 i)) → i ≡ n → order ≡ distinct nat_eq (flat_map f (range_with_len 0 n))
all_ordered f order i n so_far all =
    so_far ∙ (first_mentions nat_eq Decides-eqb (flat_map f (range_with_len 0 i)) ∙ ap (λ (k : ℕ). distinct nat_eq (flat_map f (range_with_len 0 k))) all)
