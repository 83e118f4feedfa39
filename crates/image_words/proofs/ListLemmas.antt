-- Lists that are made item by item.
use Rattle.std.proofs.Common.{◌≡◌, ℕ, zero, suc, ◌+◌, ◌<◌, Bool, true, false, List, [], ◌∷◌, ◌++◌, Option, Some, None, take, length, get_or, append-nil, refl, sym, ap, ◌∙◌, arith}
use Rattle.std.specs.Prelude.{slice_get, if◌then◌else◌}
use Rattle.std.specs.List.{filter, flat_map, range_with_len, enumerate_from}
use Rattle.std.proofs.lemmas.Bool.{false≢true}
use Rattle.std.proofs.lemmas.Grind.{flat_map-append}
use Rattle.std.proofs.lemmas.List.{take_more}
use Rattle.std.proofs.lemmas.List.Elements.{filter-append}
use Rattle.lists.specs.Lists.{onto, index_of}
use Rattle.lists.proofs.Lemmas.{none≢some}

range_suc : (a n : ℕ) → range_with_len a (suc n) ≡ range_with_len a n ++ (a + n) ∷ []
range_suc a zero = let same : a ≡ a + 0 = omega arith in ap (λ k. k ∷ []) same
range_suc a (suc n) =
    let same : a + 1 + n ≡ a + suc n = omega arith in
    ap (λ xs. a ∷ xs) (range_suc (a + 1) n ∙ ap (λ k. range_with_len (a + 1) n ++ k ∷ []) same)

pub range_more : (n : ℕ) → range_with_len 0 (n + 1) ≡ range_with_len 0 n ++ n ∷ []
range_more n =
    let more : n + 1 ≡ suc n = omega arith in
    let same : 0 + n ≡ n = omega arith in
    ap (range_with_len 0) more ∙ (range_suc 0 n ∙ ap (λ k. range_with_len 0 n ++ k ∷ []) same)

pub flat_more : {B : Type 0} (f : ℕ → List B) (n : ℕ) → flat_map f (range_with_len 0 (n + 1)) ≡ flat_map f (range_with_len 0 n) ++ f n
flat_more f n =
    ap (flat_map f) (range_more n) ∙ (flat_map-append f (range_with_len 0 n) (n ∷ []) ∙ ap (λ ys. flat_map f (range_with_len 0 n) ++ ys) (append-nil (f n)))

-- what is made of each class, by its number
pub by_number : {A B : Type 0} (g : ℕ × A → List B) (h : ℕ → List B) (n : ℕ) (ks : List A) → ((i : ℕ) (k : A) → slice_get ks i ≡ Some k → g (n + i, k) ≡ h (n + i)) → flat_map g (enumerate_from n ks) ≡ flat_map h (range_with_len n (length ks))
by_number g h n [] e = refl
by_number g h n (k ∷ ks) e =
    let here : n + 0 ≡ n = omega arith in
    let first : g (n, k) ≡ h n = ap (λ x. g (x, k)) (sym here) ∙ (e 0 k refl ∙ ap h here) in
    let rest = by_number g h (n + 1) ks (λ i x q.
    let same : n + 1 + i ≡ n + suc i = omega arith in
    ap (λ y. g (y, x)) same ∙ (e (suc i) x q ∙ ap h (sym same))) in
    ap (λ ys. ys ++ flat_map g (enumerate_from (n + 1) ks)) first ∙ ap (λ ys. h n ++ ys) rest

pub filter_flat : {A B : Type 0} (test : B → Bool) (f : A → List B) (xs : List A) → filter test (flat_map f xs) ≡ flat_map (λ x. filter test (f x)) xs
filter_flat test f [] = refl
filter_flat test f (x ∷ xs) = filter-append test (f x) (flat_map f xs) ∙ ap (λ ys. filter test (f x) ++ ys) (filter_flat test f xs)

-- ---- the first item that passes a test

here_case : {A : Type 0} (test : A → Bool) (x : A) (xs : List A) (i : ℕ) (y : A) (b : Bool) → (if b then Some 0 else onto (index_of test (take i xs)) (λ k. Some (suc k))) ≡ None → (index_of test (take i xs) ≡ None → index_of test xs ≡ Some i)
    → (if b then Some 0 else onto (index_of test xs) (λ k. Some (suc k))) ≡ Some (suc i)
here_case test x xs i y true h later = absurd (none≢some 0 (sym h))
here_case test x xs i y false h later = ap (λ o. onto o (λ k. Some (suc k))) (later (none_back (index_of test (take i xs)) h))
  where
    none_back : (o : Option ℕ) → onto o (λ k. Some (suc k)) ≡ None → o ≡ None
    none_back None h = refl
    none_back (Some k) h = absurd (none≢some (suc k) (sym h))

first_case : {A : Type 0} (test : A → Bool) (xs : List A) (b : Bool) → b ≡ true → (if b then Some 0 else onto (index_of test xs) (λ k. Some (suc k))) ≡ Some 0
first_case test xs true h = refl
first_case test xs false h = absurd (false≢true h)

pub index_here : {A : Type 0} (test : A → Bool) (xs : List A) (i : ℕ) (d : A) → i < length xs → index_of test (take i xs) ≡ None → test (get_or xs i d) ≡ true → index_of test xs ≡ Some i
index_here test [] i d lt n t = absurd (omega (arith, lt))
index_here test (x ∷ xs) zero d lt n t = first_case test xs (test x) t
index_here test (x ∷ xs) (suc i) d lt n t = here_case test x xs i d (test x) n (λ m. index_here test xs i d (omega (arith, lt)) m t)

pub index_more : {A : Type 0} (test : A → Bool) (xs : List A) (i : ℕ) (d : A) → i < length xs → index_of test (take i xs) ≡ None → test (get_or xs i d) ≡ false → index_of test (take (i + 1) xs) ≡ None
index_more test xs i d lt n t = ap (index_of test) (take_more xs i d lt) ∙ none_append (take i xs) n
  where
    last : (b : Bool) → b ≡ false → (if b then Some 0 else onto None (λ k. Some (suc k))) ≡ None
    last true h = absurd (false≢true (sym h))
    last false h = refl

    none_case : (b : Bool) (o p : Option ℕ) → (if b then Some 0 else onto o (λ k. Some (suc k))) ≡ None → (o ≡ None → p ≡ None) → (if b then Some 0 else onto p (λ k. Some (suc k))) ≡ None
    none_case true o p h later = h
    none_case false None p h later = ap (λ q. onto q (λ k. Some (suc k))) (later refl)
    none_case false (Some k) p h later = absurd (none≢some (suc k) (sym h))

    none_append : (ys : List _) → index_of test ys ≡ None → index_of test (ys ++ get_or xs i d ∷ []) ≡ None
    none_append [] h = last (test (get_or xs i d)) t
    none_append (y ∷ ys) h = none_case (test y) (index_of test ys) (index_of test (ys ++ get_or xs i d ∷ [])) h (none_append ys)
