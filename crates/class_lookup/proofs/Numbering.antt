-- Texts with their numbers.
use Rattle.std.proofs.Common.{◌≡◌, ℕ, zero, suc, ◌<◌, ◌≤◌, get_or, Bool, true, false, ◌||◌, List, [], ◌∷◌, ◌++◌, ◌⊎◌, inl, inr, ⊎_elim, map, Option, Some, None, Vec, Global, length, refl, sym, ap, ap₂, ◌∙◌, subst, arith}
use Rattle.std.specs.Prelude.{is_some, if◌then◌else◌, slice_get, unwrap_or, Result, Ok, Err, OnOk}
use Rattle.std.specs.Option.{option_or}
use Rattle.std.specs.List.{list_any}
use Rattle.std.specs.Result.{result_ok}
use Rattle.std.specs.Map.{KeepsOthers}
use Rattle.std.specs.Ordering.{is_eq, nat_cmp}
use Rattle.std.specs.Cmp.{eq_by_cmp_equiv}
use Rattle.std.specs.Cmp.Lexicographic.{slice_cmp, nat_list_cmp_total}
use Rattle.std.specs.BTreeMap.{BTreeMap, UpdatesBy}
use Rattle.std.proofs.lemmas.List.{map-append}
use Rattle.std.proofs.lemmas.Bool.{true≢false, cases_Bool}
use Rattle.std.proofs.lemmas.Map.Text.{is_eq-slice_cmp}
use Rattle.std.proofs.lemmas.Option.{slice_get_within}
use Rattle.lists.specs.Lists.{onto, index_of}
use Rattle.lists.proofs.Lemmas.{none≢some, some_same, index_append, index_found}
use Rattle.class_lookup.specs.Parts.{same_text}
use Rattle.class_lookup.specs.Lists.{with_item, with_items}
use Rattle.class_lookup.specs.Numbered.{number_in, number_of, AreNumbered, HasNumbers}
use Rattle.class_lookup.proofs.Searches.{text_same, same_is_text}

-- ---- two texts of one number are one

pub one_text : (texts : List (List ℕ)) (a b : List ℕ) (n : ℕ) → number_in texts a ≡ Some n → number_in texts b ≡ Some n → a ≡ b
one_text texts a b n h e =
    let f = index_found (same_text a) texts n h in
    let g = index_found (same_text b) texts n e in
    text_same a f.0 f.2 ∙ (some_same f.0 g.0 (sym f.1 ∙ g.1) ∙ sym (text_same b g.0 g.2))

-- ---- a text has a number exactly where it is among them

found_case : {A : Type 0} (test : A → Bool) (xs : List A) (b : Bool) → is_some (index_of test xs) ≡ list_any test xs → is_some (if b then Some 0 else onto (index_of test xs) (λ k. Some (suc k))) ≡ (b || list_any test xs)
found_case test xs true h = refl
found_case test xs false h = raised (index_of test xs) ∙ h
  where
    raised : (o : Option ℕ) → is_some (onto o (λ k. Some (suc k))) ≡ is_some o
    raised None = refl
    raised (Some k) = refl

pub found_any : {A : Type 0} (test : A → Bool) (xs : List A) → is_some (index_of test xs) ≡ list_any test xs
found_any test [] = refl
found_any test (x ∷ xs) = found_case test xs (test x) (found_any test xs)

-- ---- one more text

pub with_new : (texts : List (List ℕ)) (text : List ℕ) → number_in texts text ≡ None → with_item same_text texts text ≡ texts ++ text ∷ []
with_new texts text h = ap (λ b. if b then texts else texts ++ text ∷ []) (sym (found_any (same_text text) texts) ∙ ap is_some h)

pub with_old : (texts : List (List ℕ)) (text : List ℕ) (n : ℕ) → number_in texts text ≡ Some n → with_item same_text texts text ≡ texts
with_old texts text n h = ap (λ b. if b then texts else texts ++ text ∷ []) (sym (found_any (same_text text) texts) ∙ ap is_some h)

-- the number that an answer gives is that of a text that is there
pub with_answer : {E : Type 0} (texts : List (List ℕ)) (text : List ℕ) (r : Result ℕ E) → number_in texts text ≡ result_ok r → OnOk r (texts ≡ with_item same_text texts text)
with_answer texts text (Ok n) h = sym (with_old texts text n h)
with_answer texts text (Err e) h = tt

pub new_number : (texts : List (List ℕ)) (text : List ℕ) → number_in texts text ≡ None → number_in (texts ++ text ∷ []) text ≡ Some (length texts)
new_number texts text h =
    index_append (same_text text) texts text
    ∙ ap₂ (λ (o : Option ℕ) (b : Bool). option_or o (if b then Some (length texts) else None)) h (same_is_text text text refl)

last_case : (texts : List (List ℕ)) (text t : List ℕ) (n : ℕ) → slice_get (texts ++ text ∷ []) n ≡ Some t → (slice_get texts n ≡ Some t) ⊎ ((n ≡ length texts) × (text ≡ t))
last_case [] text t zero h = inr (refl, some_same text t h)
last_case [] text t (suc n) h = absurd (none≢some t h)
last_case (x ∷ texts) text t zero h = inl h
last_case (x ∷ texts) text t (suc n) h = elim (last_case texts text t n h) [ inl e ↦ inl e | inr e ↦ inr (ap suc e.0, e.1) ]

pub kept_one : (texts : List (List ℕ)) (text t : List ℕ) (n : ℕ) → number_in texts t ≡ Some n → number_in (texts ++ text ∷ []) t ≡ Some n
kept_one texts text t n h = index_append (same_text t) texts text ∙ ap (λ (o : Option ℕ). option_or o (if same_text t text then Some (length texts) else None)) h

pub numbered_more : (texts : List (List ℕ)) (text : List ℕ) → AreNumbered texts → number_in texts text ≡ None → AreNumbered (texts ++ text ∷ [])
numbered_more texts text h none n t e = elim (last_case texts text t n e) [
  | inl at ↦ kept_one texts text t n (h n t at)
  | inr last ↦ subst (λ x. number_in (texts ++ text ∷ []) x ≡ Some n) last.1 (new_number texts text none ∙ ap Some (sym last.0))
]

pub numbered_first : AreNumbered ([] ∷ [])
numbered_first n t e = elim (last_case [] [] t n e) [
  | inl at ↦ absurd (none≢some t at)
  | inr last ↦ subst (λ x. number_in ([] ∷ []) x ≡ Some n) last.1 (ap Some (sym last.0))
]

-- ---- numbers stay as texts are added

with_case : (texts : List (List ℕ)) (text t : List ℕ) (n : ℕ) (b : Bool) → number_in texts t ≡ Some n → number_in (if b then texts else texts ++ text ∷ []) t ≡ Some n
with_case texts text t n true h = h
with_case texts text t n false h = kept_one texts text t n h

pub kept : (texts : List (List ℕ)) (text t : List ℕ) (n : ℕ) → number_in texts t ≡ Some n → number_in (with_item same_text texts text) t ≡ Some n
kept texts text t n h = with_case texts text t n (list_any (same_text text) texts) h

pub all_kept : (texts more : List (List ℕ)) (t : List ℕ) (n : ℕ) → number_in texts t ≡ Some n → number_in (with_items same_text texts more) t ≡ Some n
all_kept texts [] t n h = h
all_kept texts (text ∷ more) t n h = all_kept (with_item same_text texts text) more t n (kept texts text t n h)

-- ---- as the map of texts has it

updated : (numbers after : BTreeMap (Vec ℕ Global) ℕ) (k : Vec ℕ Global) (n : ℕ) (t u : List ℕ) → UpdatesBy (λ x y. slice_cmp nat_cmp x.items y.items) (λ y. slice_cmp nat_cmp k.items y.items) numbers after (Some n) → k.items ≡ t
    → same_text u t ≡ false → number_of after u ≡ number_of numbers u
unfolding KeepsOthers
updated numbers after k n t u h e apart =
    h.3 (λ v. is_eq (slice_cmp nat_cmp u v.items)) (λ x y. (eq_by_cmp_equiv nat_list_cmp_total).congr u x.items y.items)
    (λ v at. let same : t ≡ v.items = sym e ∙ text_same k.items v.items (sym (is_eq-slice_cmp k.items v.items) ∙ at) in is_eq-slice_cmp u v.items ∙ (ap (same_text u) (sym same) ∙ apart))

option_or-none : (o : Option ℕ) → option_or o None ≡ o
option_or-none None = refl
option_or-none (Some n) = refl

-- each text's number, once one text has a number
pub written : (numbers after : BTreeMap (Vec ℕ Global) ℕ) (k : Vec ℕ Global) (n : ℕ)
    → UpdatesBy (λ x y. slice_cmp nat_cmp x.items y.items) (λ y. slice_cmp nat_cmp k.items y.items) numbers after (Some n)
    → (u : List ℕ) → number_of after u ≡ (if same_text u k.items then Some n else number_of numbers u)
written numbers after k n h u =
    ⊎_elim
    (λ y. ap (number_of after) (text_same u k.items y) ∙ (h.1 ∙ ap (λ (b : Bool). if b then Some n else number_of numbers u) (sym y)))
    (λ a. updated numbers after k n k.items u h refl a ∙ ap (λ (b : Bool). if b then Some n else number_of numbers u) (sym a))
    (cases_Bool (same_text u k.items))

-- one more text, with the number of its place
pub put_new : (texts : List (List ℕ)) (numbers after : BTreeMap (Vec ℕ Global) ℕ) (t : List ℕ) (n : ℕ)
    → ((u : List ℕ) → number_of after u ≡ (if same_text u t then Some n else number_of numbers u)) → n ≡ length texts → number_in texts t ≡ None
    → HasNumbers texts numbers → HasNumbers (texts ++ t ∷ []) after
put_new texts numbers after t n h place none has u =
    ⊎_elim
    (λ y. h u ∙ (ap (λ (b : Bool). if b then Some n else number_of numbers u) y ∙ (ap Some place ∙ (sym (new_number texts t none) ∙ ap (number_in (texts ++ t ∷ [])) (sym (text_same u t y))))))
    (λ a. h u ∙ (ap (λ (b : Bool). if b then Some n else number_of numbers u) a ∙ (has u ∙ (sym (option_or-none (number_in texts u))
    ∙ (ap (λ (b : Bool). option_or (number_in texts u) (if b then Some (length texts) else None)) (sym a) ∙ sym (index_append (same_text u) texts t))))))
    (cases_Bool (same_text u t))

-- a number found is below the next one, exactly where the text is there
or_some : (o : Option ℕ) (n next : ℕ) → n ≡ unwrap_or o next → n < next → o ≡ Some n
or_some None n next h lt = absurd (omega (arith, lt, h))
or_some (Some k) n next h lt = ap Some (sym h)

or_none : (texts : List (List ℕ)) (text : List ℕ) (o : Option ℕ) (n next : ℕ) → number_in texts text ≡ o → n ≡ unwrap_or o next → next ≡ length texts → next ≤ n → o ≡ None
or_none texts text None n next e h place above = refl
or_none texts text (Some k) n next e h place above =
    let f = index_found (same_text text) texts k e in
    let below = slice_get_within texts k f.0 f.1 in
    absurd (omega (arith, below, h, place, above))

found_in : (texts : List (List ℕ)) (numbers : BTreeMap (Vec ℕ Global) ℕ) (t k : List ℕ) (n next : ℕ) → HasNumbers texts numbers → t ≡ k → n ≡ unwrap_or (number_of numbers k) next → n ≡ unwrap_or (number_in texts t) next
found_in texts numbers t k n next has same h = h ∙ ap (λ (o : Option ℕ). unwrap_or o next) (has k ∙ ap (number_in texts) (sym same))

pub there_below : (texts : List (List ℕ)) (numbers : BTreeMap (Vec ℕ Global) ℕ) (t k : List ℕ) (n next : ℕ) → HasNumbers texts numbers → t ≡ k → n ≡ unwrap_or (number_of numbers k) next → n < next → number_in texts t ≡ Some n
there_below texts numbers t k n next has same h lt = or_some (number_in texts t) n next (found_in texts numbers t k n next has same h) lt

pub none_above : (texts : List (List ℕ)) (numbers : BTreeMap (Vec ℕ Global) ℕ) (t k : List ℕ) (n next : ℕ) → HasNumbers texts numbers → t ≡ k → n ≡ unwrap_or (number_of numbers k) next → next ≡ length texts → next ≤ n → (number_in texts t ≡ None) × (n ≡ length texts)
none_above texts numbers t k n next has same h place above =
    let found = found_in texts numbers t k n next has same h in
    let none = or_none texts t (number_in texts t) n next refl found place above in
    (none, found ∙ (ap (λ (o : Option ℕ). unwrap_or o next) none ∙ place))

pub put_more : (texts : List (List ℕ)) (numbers after : BTreeMap (Vec ℕ Global) ℕ) (k : Vec ℕ Global) (n : ℕ) (t : List ℕ)
    → UpdatesBy (λ x y. slice_cmp nat_cmp x.items y.items) (λ y. slice_cmp nat_cmp k.items y.items) numbers after (Some n) → k.items ≡ t → n ≡ length texts → number_in texts t ≡ None
    → HasNumbers texts numbers → HasNumbers (texts ++ t ∷ []) after
put_more texts numbers after k n t h e place none has =
    put_new texts numbers after t n (subst (λ t. (u : List ℕ) → number_of after u ≡ (if same_text u t then Some n else number_of numbers u)) e (written numbers after k n h)) place none has

pub put_first : (numbers after : BTreeMap (Vec ℕ Global) ℕ) (k : Vec ℕ Global) → numbers.entries ≡ []
    → UpdatesBy (λ x y. slice_cmp nat_cmp x.items y.items) (λ y. slice_cmp nat_cmp k.items y.items) numbers after (Some 0) → k.items ≡ [] → HasNumbers ([] ∷ []) after
put_first numbers after k empty h e = put_more [] numbers after k 0 [] h e refl refl (λ u. rw empty refl)

pub none_of : {A : Type 0} (o : Option A) → ((x : A) → o ≡ Some x → ⊥) → o ≡ None
none_of None h = refl
none_of (Some x) h = absurd (h x refl)

pub long_keys : (keys : List (Vec ℕ Global)) → length (map (λ v. v.items) keys) ≡ length keys
long_keys [] = refl
long_keys (k ∷ keys) = ap suc (long_keys keys)

pub keys_more : (keys after : List (Vec ℕ Global)) (k : Vec ℕ Global) → after ≡ keys ++ k ∷ [] → map (λ v. v.items) after ≡ map (λ v. v.items) keys ++ k.items ∷ []
keys_more keys after k h = ap (map (λ (v : Vec ℕ Global). v.items)) h ∙ map-append (λ v. v.items) keys (k ∷ [])

pub key_at : (keys : List (Vec ℕ Global)) (n : ℕ) (k : Vec ℕ Global) → n < length keys → k ≡ get_or keys n k → slice_get (map (λ v. v.items) keys) n ≡ Some k.items
key_at [] n k lt h = absurd (omega (arith, lt))
key_at (x ∷ keys) zero k lt h = ap (λ (v : Vec ℕ Global). Some v.items) (sym h)
key_at (x ∷ keys) (suc n) k lt h = key_at keys n k (omega (arith, lt)) h

pub not_some : {A : Type 0} (o : Option A) → is_some o ≡ false → o ≡ None
not_some None h = refl
not_some (Some x) h = absurd (true≢false h)
