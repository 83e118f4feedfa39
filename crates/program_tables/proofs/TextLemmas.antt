-- What is said of all names in the types of a method, and what texts mean by their symbols.
use Rattle.std.proofs.Common.{◌≡◌, ℕ, zero, suc, ◌<◌, ◌≤◌, Bool, true, false, ◌&&◌, List, [], ◌∷◌, ◌++◌, get_or, length, inl, inr, Option, Some, None, Bor, refl, sym, ap, ◌∙◌, subst, ltb, arith}
use Rattle.std.specs.Prelude.{slice_get, is_some, IfSome}
use Rattle.std.specs.Option.{option_copied, option_map, IsSomeAnd}
use Rattle.std.specs.List.{list_all, flat_map}
use Rattle.std.proofs.lemmas.Bool.{ltb-true, ltb-false}
use Rattle.std.proofs.lemmas.Option.{slice_get-get_or, slice_get-map, slice_get_past, slice_get_cases, slice_get_within}
use lib.Pointwise.{bytes_decides}
use Rattle.class_pool.specs.declared.class.ClassFile.{ClassFile}
use Rattle.bytecode_model.specs.Lists.{onto, index_of}
use Rattle.class_lookup.specs.Parts.{same_text}
use Rattle.lists.proofs.Lemmas.{index_found, none≢some, some_same}
use Rattle.program_tables.specs.declared.text_type.TextType.{TextType}
use Rattle.class_lookup.specs.Symbols.{texts, symbol}
use Rattle.program_tables.specs.Tables.{numbers_among}
use Rattle.program_tables.specs.Texts.{IsTextType, AreTextTypes}
use Rattle.program_tables.proofs.ShapeLemmas.{front_get}

-- ---- all names

pub and_assoc : (a b c : Bool) → (a && (b && c)) ≡ ((a && b) && c)
and_assoc true b c = refl
and_assoc false b c = refl

pub all_of_both : {A : Type 0} (p : A → Bool) (xs ys : List A) → list_all p (xs ++ ys) ≡ (list_all p xs && list_all p ys)
all_of_both p [] ys = refl
all_of_both p (x ∷ xs) ys = ap (λ b. p x && b) (all_of_both p xs ys) ∙ and_assoc (p x) (list_all p xs) (list_all p ys)

all_of_parts : {A B : Type 0} (p : B → Bool) (f : A → List B) (xs : List A) → list_all p (flat_map f xs) ≡ list_all (λ x. list_all p (f x)) xs
all_of_parts p f [] = refl
all_of_parts p f (x ∷ xs) = all_of_both p (f x) (flat_map f xs) ∙ ap (λ b. list_all p (f x) && b) (all_of_parts p f xs)

pub all_of_list_and : {A B : Type 0} (p : B → Bool) (f : A → List B) (xs : List A) (ys : List B) → list_all p (flat_map f xs ++ ys) ≡ (list_all (λ x. list_all p (f x)) xs && list_all p ys)
all_of_list_and p f xs ys = all_of_both p (flat_map f xs) ys ∙ ap (λ b. b && list_all p ys) (all_of_parts p f xs)

-- ---- by symbols

-- an item that is read
pub copied_get : {T : Type 0} (o : Option (Bor T)) (xs : List T) (n : ℕ) → is_some o ≡ ltb n (length xs) → IfSome o (λ x. x.now ≡ get_or xs n x.now) → option_copied o ≡ slice_get xs n
copied_get None xs n h g = sym (slice_get_past xs n (ltb-false n (length xs) (sym h)))
copied_get (Some x) xs n h g = ap Some g ∙ sym (slice_get-get_or xs n x.now (ltb-true n (length xs) (sym h)))

-- the text of a symbol stands at its number
pub text_there : (cs : List ClassFile) (text : List ℕ) (n : ℕ) → symbol cs text ≡ Some n → slice_get (texts cs) n ≡ Some text
unfolding symbol
text_there cs text n e = let f = index_found (same_text text) (texts cs) n e in f.1 ∙ ap Some (sym ((bytes_decides text f.0).0 f.2))

pub symbol_within : (cs : List ClassFile) (text : List ℕ) (n : ℕ) → symbol cs text ≡ Some n → n < length (texts cs)
symbol_within cs text n e = slice_get_within (texts cs) n text (text_there cs text n e)

is_of : (cs : List ClassFile) (text : List ℕ) (t : TextType) (o : Option (List ℕ)) → o ≡ Some text → IsSomeAnd o (λ u. IsTextType cs u t) → IsTextType cs text t
is_of cs text t None e h = absurd h
is_of cs text t (Some u) e h = subst (λ v. IsTextType cs v t) (some_same u text e) h

pub means_there : (cs : List ClassFile) (types : List TextType) → length types ≡ length (texts cs) → AreTextTypes cs types → (text : List ℕ) (n : ℕ) → symbol cs text ≡ Some n
    → IsSomeAnd (slice_get types n) (IsTextType cs text)
means_there cs types long are text n e = elim ((slice_get_cases types n).1) [
  | inl there ↦ subst (λ o. IsSomeAnd o (IsTextType cs text)) (sym there.2) (is_of cs text there.0 (slice_get (texts cs) n) (text_there cs text n e) (are.each n there.0 there.2))
  | inr past ↦ let lt = symbol_within cs text n e in let le = past.0 in absurd (omega (arith, lt, le, long))
]

within_of : (cs : List ClassFile) (t : TextType) (o : Option (List ℕ)) → IsSomeAnd o (λ u. IsTextType cs u t) → IfSome t.entry.kind (λ k. k.dimensions < 256)
within_of cs t None h = absurd h
within_of cs t (Some u) h = h.within

pub kinds_within : (cs : List ClassFile) (types : List TextType) → AreTextTypes cs types → (n : ℕ) (o : Option TextType) → slice_get types n ≡ o → IfSome o (λ t. IfSome t.entry.kind (λ k. k.dimensions < 256))
kinds_within cs types are n None e = tt
kinds_within cs types are n (Some t) e = within_of cs t (slice_get (texts cs) n) (are.each n t e)

-- the number of a text among strings, by its symbol
pub number_at : (cs : List ClassFile) (strings : List (List ℕ)) (numbers : List (Option ℕ)) → numbers ≡ numbers_among strings cs → (text : List ℕ) (n : ℕ) → symbol cs text ≡ Some n
    → onto (slice_get numbers n) (λ number. number) ≡ index_of (same_text text) strings
number_at cs strings numbers h text n e =
    let f = λ (t : List ℕ). index_of (same_text t) strings in
    ap (λ (ns : List (Option ℕ)). onto (slice_get ns n) (λ number. number)) h
    ∙ ap (λ (o : Option (Option ℕ)). onto o (λ number. number)) (slice_get-map f (texts cs) n ∙ ap (option_map f) (text_there cs text n e))

-- numbers that are all small, with one more
pub small_more : (most : ℕ) (numbers pushed : List (Option ℕ)) (o : Option ℕ) → ((n k : ℕ) → slice_get numbers n ≡ Some (Some k) → k < most) → IfSome o (λ k. k < most) → pushed ≡ numbers ++ o ∷ []
    → (n k : ℕ) → slice_get pushed n ≡ Some (Some k) → k < most
small_more most numbers pushed o h s e n k g = elim ((slice_get_cases numbers n).1) [
  | inl there ↦ h n k (sym (front_get numbers (o ∷ []) n there.1) ∙ (ap (λ (ns : List (Option ℕ)). slice_get ns n) (sym e) ∙ g))
  | inr past ↦ last_small o k (last_of numbers o (Some k) n (ap (λ (ns : List (Option ℕ)). slice_get ns n) (sym e) ∙ g) past.0) s
]
  where
    last_of : {A : Type 0} (xs : List A) (x y : A) (n : ℕ) → slice_get (xs ++ x ∷ []) n ≡ Some y → length xs ≤ n → x ≡ y
    last_of [] x y zero e le = some_same x y e
    last_of [] x y (suc n) e le = absurd (none≢some y e)
    last_of (z ∷ xs) x y zero e le = absurd (omega (arith, le))
    last_of (z ∷ xs) x y (suc n) e le = last_of xs x y n e (omega (arith, le))

    last_small : (o : Option ℕ) (k : ℕ) → o ≡ Some k → IfSome o (λ j. j < most) → k < most
    last_small None k e s = absurd (none≢some k e)
    last_small (Some j) k e s = subst (λ i. i < most) (some_same j k e) s
