-- What follows of partial results, and of the first item that passes a test, over any type of item. Proofs above cite these as they do the library's
-- lemmas on lists.
use Rattle.std.proofs.Common.{◌≡◌, ℕ, zero, suc, Bool, true, false, List, [], ◌∷◌, ◌++◌, length, Option, Some, None, refl, sym, ap, ◌∙◌, subst}
use Rattle.std.specs.Prelude.{slice_get, if◌then◌else◌, IsSomeAnd, IfSome}
use Rattle.std.specs.Option.{option_map, option_or}
use Rattle.std.proofs.lemmas.Bool.{cond-true}
use Rattle.lists.specs.Lists.{onto, index_of}

-- ---- partial results

pub none≢some : {A : Type 0} (x : A) → None ≡ Some x → ⊥
none≢some {A} x h =
    let is_none_type : Option A → Type 0 = λ o. elim o as (λ _. Type 0) [ None ↦ Unit {0} | Some _ ↦ ⊥ ] in
    subst is_none_type h tt

pub some_same : {A : Type 0} (x y : A) → Some x ≡ Some y → x ≡ y
some_same {A} x y h =
    let value : Option A → A = λ o. elim o as (λ _. A) [ None ↦ x | Some z ↦ z ] in
    ap value h

-- what comes of a value came of one that was there
pub onto_some : {A B : Type 0} (o : Option A) (f : A → Option B) (y : B) → onto o f ≡ Some y → (x : A) × (o ≡ Some x) × (f x ≡ Some y)
onto_some None f y h = absurd (none≢some y h)
onto_some (Some x) f y h = (x, refl, h)

pub map_some : {A B : Type 0} (f : A → B) (o : Option A) (y : B) → option_map f o ≡ Some y → (x : A) × (o ≡ Some x) × (f x ≡ y)
map_some f None y h = absurd (none≢some y h)
map_some f (Some x) y h = (x, refl, some_same (f x) y h)

-- what holds of a value that is there
pub some_is : {A : Type 0} (o : Option A) (Q : A → Type 0) → IsSomeAnd o Q → (x : A) × (o ≡ Some x) × Q x
some_is None Q h = absurd h
some_is (Some x) Q h = (x, refl, h)

pub holds_at : {A : Type 0} (o : Option A) (x : A) (Q : A → Type 0) → o ≡ Some x → IsSomeAnd o Q → Q x
holds_at o x Q e h = subst (λ o. IsSomeAnd o Q) e h

pub some_in : {A : Type 0} (o : Option A) (x : A) (Q : A → Type 0) → o ≡ Some x → Q x → IsSomeAnd o Q
some_in o x Q e h = subst (λ o. IsSomeAnd o Q) (sym e) h

pub if_at : {A : Type 0} (o : Option A) (x : A) (Q : A → Type 0) → o ≡ Some x → IfSome o Q → Q x
if_at o x Q e h = subst (λ o. IfSome o Q) e h

-- ---- the first item that passes a test

-- it passes the test
found_case : {A : Type 0} (test : A → Bool) (x : A) (xs : List A) (i : ℕ) (b : Bool) → test x ≡ b
    → ((k : ℕ) → index_of test xs ≡ Some k → (y : A) × (slice_get xs k ≡ Some y) × (test y ≡ true))
    → (if b then Some 0 else onto (index_of test xs) (λ k. Some (suc k))) ≡ Some i → (y : A) × (slice_get (x ∷ xs) i ≡ Some y) × (test y ≡ true)
found_case test x xs i true t later e = (x, ap (slice_get (x ∷ xs)) (sym (some_same 0 i e)), t)
found_case test x xs i false t later e =
    let r = onto_some (index_of test xs) (λ k. Some (suc k)) i e in
    let f = later r.0 r.1 in
    (f.0, ap (slice_get (x ∷ xs)) (sym (some_same (suc r.0) i r.2)) ∙ f.1, f.2)

pub index_found : {A : Type 0} (test : A → Bool) (xs : List A) (i : ℕ) → index_of test xs ≡ Some i → (y : A) × (slice_get xs i ≡ Some y) × (test y ≡ true)
index_found test [] i e = absurd (none≢some i e)
index_found test (x ∷ xs) i e = found_case test x xs i (test x) refl (index_found test xs) e

-- where an item passes the test, one is found
there_case : {A : Type 0} (test : A → Bool) (x : A) (xs : List A) (b : Bool) → test x ≡ b → ((i : ℕ) × (index_of test xs ≡ Some i))
    → (i : ℕ) × ((if b then Some 0 else onto (index_of test xs) (λ k. Some (suc k))) ≡ Some i)
there_case test x xs true t later = (0, refl)
there_case test x xs false t later = (suc later.0, ap (λ o. onto o (λ k. Some (suc k))) later.1)

pub index_there : {A : Type 0} (test : A → Bool) (xs : List A) (j : ℕ) (y : A) → slice_get xs j ≡ Some y → test y ≡ true → (i : ℕ) × (index_of test xs ≡ Some i)
index_there test [] j y h t = absurd (none≢some y h)
index_there test (x ∷ xs) zero y h t = (0, cond-true (test x) (Some 0) (onto (index_of test xs) (λ k. Some (suc k))) (ap test (some_same x y h) ∙ t))
index_there test (x ∷ xs) (suc j) y h t = there_case test x xs (test x) refl (index_there test xs j y h t)

-- with one more item behind
raised : (o : Option ℕ) (b : Bool) (n : ℕ) → onto (option_or o (if b then Some n else None)) (λ k. Some (suc k)) ≡ option_or (onto o (λ k. Some (suc k)))
    (if b then Some (suc n) else None)
raised None true n = refl
raised None false n = refl
raised (Some k) b n = refl

append_case : {A : Type 0} (t : A → Bool) (xs : List A) (y : A) (b : Bool)
    → index_of t (xs ++ y ∷ []) ≡ option_or (index_of t xs) (if t y then Some (length xs) else None)
    → (if b then Some 0 else onto (index_of t (xs ++ y ∷ [])) (λ k. Some (suc k))) ≡ option_or (if b then Some 0 else onto (index_of t xs) (λ k. Some (suc k)))
    (if t y then Some (suc (length xs)) else None)
append_case t xs y true h = refl
append_case t xs y false h = ap (λ o. onto o (λ k. Some (suc k))) h ∙ raised (index_of t xs) (t y) (length xs)

pub index_append : {A : Type 0} (t : A → Bool) (xs : List A) (y : A)
    → index_of t (xs ++ y ∷ []) ≡ option_or (index_of t xs) (if t y then Some (length xs) else None)
index_append t [] y = refl
index_append t (x ∷ xs) y = append_case t xs y (t x) (index_append t xs y)
