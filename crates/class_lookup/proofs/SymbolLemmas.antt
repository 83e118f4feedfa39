-- Texts by their symbols.
use Rattle.std.proofs.Common.{◌≡◌, ℕ, zero, suc, ◌+◌, ◌-◌, ◌<◌, List, [], ◌∷◌, ◌++◌, take, get_or, Some, None, length, refl, sym, ap, ◌∙◌, subst, arith}
use Rattle.std.specs.Prelude.{slice_get, unwrap_or}
use Rattle.std.specs.Option.{option_map_or}
use Rattle.std.specs.List.{flat_map, AllZip}
use Rattle.std.proofs.lemmas.List.Elements.{filter_map-append}
use Rattle.std.proofs.lemmas.Grind.{take_at_read}
use Rattle.std.proofs.lemmas.Option.{slice_get_within}
use lib.Pointwise.{bytes_decides}
use Rattle.class_pool.specs.declared.entry.Entry.{Entry}
use Rattle.class_pool.specs.declared.entry.Entry.TheVariants.{Utf8}
use Rattle.class_pool.specs.declared.class.ClassFile.{ClassFile}
use Rattle.class_pool.specs.Grammar.{utf8_of, entry_at, class_name_of, text_at}
use Rattle.lists.proofs.Lemmas.{none≢some, some_same, index_found}
use Rattle.class_lookup.specs.Parts.{same_text, class_text}
use Rattle.class_lookup.specs.Lists.{with_items}
use Rattle.class_lookup.specs.Symbols.{pool_texts, texts, symbol}
use Rattle.class_lookup.specs.Numbered.{number_in, entry_text, HaveNumbers, number_at}
use Rattle.class_lookup.specs.Tables.{AreSymbols}
use Rattle.class_lookup.specs.declared.symbols.Symbols.{Symbols}
use Rattle.class_lookup.proofs.Numbering.{all_kept, one_text}
use Rattle.class_lookup.proofs.Mentions.{with_items-append, first_mentions}

-- ---- two lists, place by place

pub zip_push : {A B : Type 0} (R : A → B → Type 0) (xs : List A) (ys : List B) (x : A) (y : B) → AllZip R xs ys → R x y → AllZip R (xs ++ x ∷ []) (ys ++ y ∷ [])
zip_push R [] [] x y h r = (r, tt)
zip_push R [] (b ∷ ys) x y h r = absurd h
zip_push R (a ∷ xs) [] x y h r = absurd h
zip_push R (a ∷ xs) (b ∷ ys) x y h r = (h.0, zip_push R xs ys x y h.1 r)

pub zip_map : {A B : Type 0} (R Q : A → B → Type 0) → ((x : A) (y : B) → R x y → Q x y) → (xs : List A) (ys : List B) → AllZip R xs ys → AllZip Q xs ys
zip_map R Q f [] [] h = tt
zip_map R Q f [] (b ∷ ys) h = absurd h
zip_map R Q f (a ∷ xs) [] h = absurd h
zip_map R Q f (a ∷ xs) (b ∷ ys) h = (f a b h.0, zip_map R Q f xs ys h.1)

pub zip_long : {A B : Type 0} (R : A → B → Type 0) (xs : List A) (ys : List B) → AllZip R xs ys → length ys ≡ length xs
zip_long R [] [] h = refl
zip_long R [] (b ∷ ys) h = absurd h
zip_long R (a ∷ xs) [] h = absurd h
zip_long R (a ∷ xs) (b ∷ ys) h = ap suc (zip_long R xs ys h.1)

pub zip_at : {A B : Type 0} (R : A → B → Type 0) (xs : List A) (ys : List B) (k : ℕ) (x : A) (d : B) → AllZip R xs ys → slice_get xs k ≡ Some x → R x (get_or ys k d)
zip_at R [] ys k x d h e = absurd (none≢some x e)
zip_at R (a ∷ xs) [] k x d h e = absurd h
zip_at R (a ∷ xs) (b ∷ ys) zero x d h e = subst (λ z. R z b) (some_same a x e) h.0
zip_at R (a ∷ xs) (b ∷ ys) (suc k) x d h e = zip_at R xs ys k x d h.1 e

-- one item more
pub zip_next : {A B : Type 0} (R : A → B → Type 0) (xs : List A) (i : ℕ) (x : A) (ys : List B) (y : B) → i < length xs → x ≡ get_or xs i x → AllZip R (take i xs) ys → R x y → AllZip R (take (i + 1) xs) (ys ++ y ∷ [])
zip_next R xs i x ys y lt is h r =
    subst (λ zs. AllZip R zs (ys ++ y ∷ [])) (sym ((take_at_read xs i x lt).1 ∙ ap (λ z. take i xs ++ z ∷ []) (sym is))) (zip_push R (take i xs) ys x y h r)

-- ---- the numbers of a pool's entries

pub numbers_kept : (old more new : List (List ℕ)) (entries : List Entry) (numbers : List ℕ) → new ≡ with_items same_text old more → HaveNumbers old entries numbers → HaveNumbers new entries numbers
numbers_kept old more new entries numbers e h =
    subst (λ ts. HaveNumbers ts entries numbers) (sym e)
    (zip_map (λ x n. number_in old (entry_text x) ≡ Some n) (λ x n. number_in (with_items same_text old more) (entry_text x) ≡ Some n) (λ x n. all_kept old more (entry_text x) n) entries numbers h)

pub next_entry : (entries : List Entry) (i : ℕ) (e : Entry) (old now new : List (List ℕ)) → i < length entries → e ≡ get_or entries i e
    → now ≡ with_items same_text old (pool_texts (take i entries)) → new ≡ with_items same_text now (pool_texts (e ∷ [])) → new ≡ with_items same_text old (pool_texts (take (i + 1) entries))
next_entry entries i e old now new lt is h g =
    g ∙ (ap (λ zs. with_items same_text zs (pool_texts (e ∷ []))) h
    ∙ (sym (with_items-append same_text old (pool_texts (take i entries)) (pool_texts (e ∷ [])))
    ∙ ap (with_items same_text old) (sym (filter_map-append (λ x. utf8_of (Some x)) (take i entries) (e ∷ []))
    ∙ ap pool_texts (sym ((take_at_read entries i e lt).1 ∙ ap (λ z. take i entries ++ z ∷ []) (sym is))))))

-- the numbers by place are those of the pool's texts
read_number : (ts : List (List ℕ)) (entries : List Entry) (numbers : List ℕ) (place : ℕ) → number_in ts [] ≡ Some 0 → HaveNumbers ts entries numbers → number_in ts (unwrap_or (utf8_of (slice_get entries place)) []) ≡ Some (get_or numbers place 0)
read_number ts [] [] place z h = z
read_number ts [] (n ∷ numbers) place z h = absurd h
read_number ts (e ∷ entries) [] place z h = absurd h
read_number ts (e ∷ entries) (n ∷ numbers) zero z h = h.0
read_number ts (e ∷ entries) (n ∷ numbers) (suc place) z h = read_number ts entries numbers place z h.1

pub number_of_text : (ts : List (List ℕ)) (entries : List Entry) (numbers : List ℕ) (index : ℕ) → number_in ts [] ≡ Some 0 → HaveNumbers ts entries numbers → number_in ts (text_at entries index) ≡ Some (number_at numbers index)
number_of_text ts entries numbers zero z h = z
number_of_text ts entries numbers (suc place) z h = read_number ts entries numbers place z h

-- ---- symbols

pub texts_are : (cs : List ClassFile) → with_items same_text ([] ∷ []) (flat_map (λ c. pool_texts c.pool) cs) ≡ texts cs
unfolding texts
texts_are cs = first_mentions same_text (λ a b. bytes_decides a b) ([] ∷ flat_map (λ c. pool_texts c.pool) cs)

pub symbol_is : (cs : List ClassFile) (text : List ℕ) → symbol cs text ≡ number_in (texts cs) text
unfolding symbol
symbol_is cs text = refl

pub empty_symbol : (cs : List ClassFile) → symbol cs [] ≡ Some 0
unfolding symbol texts
empty_symbol cs = refl

pub one_symbol : (cs : List ClassFile) (a b : List ℕ) (n : ℕ) → symbol cs a ≡ Some n → symbol cs b ≡ Some n → a ≡ b
one_symbol cs a b n h e = one_text (texts cs) a b n (sym (symbol_is cs a) ∙ h) (sym (symbol_is cs b) ∙ e)

pub symbol_below : (cs : List ClassFile) (text : List ℕ) (n : ℕ) → symbol cs text ≡ Some n → n < length (texts cs)
symbol_below cs text n h = let f = index_found (same_text text) (texts cs) n (sym (symbol_is cs text) ∙ h) in slice_get_within (texts cs) n f.0 f.1

pub symbol_read : (cs : List ClassFile) (s : Symbols) → AreSymbols cs s → (c : ℕ) (k : ClassFile) (index : ℕ) → slice_get cs c ≡ Some k
    → symbol cs (text_at k.pool index) ≡ Some (number_at (get_or s.entries.items c []) index)
symbol_read cs s t c k index at =
    let numbers = zip_at (λ x ns. HaveNumbers s.texts x.pool ns) cs s.entries.items c k [] t.entries at in
    symbol_is cs (text_at k.pool index)
    ∙ (ap (λ ts. number_in ts (text_at k.pool index)) (sym t.texts)
    ∙ number_of_text s.texts k.pool (get_or s.entries.items c []) index (ap (λ ts. number_in ts []) t.texts ∙ (sym (symbol_is cs []) ∙ empty_symbol cs)) numbers)

pub no_text : (e : Entry) → ((units : List ℕ) → e ≡ Utf8 units → ⊥) → utf8_of (Some e) ≡ None
no_text (Utf8 units) h = absurd (h units refl)
no_text e h = refl

pub read_is : {A : Type 0} (xs : List A) (i : ℕ) (x d : A) → slice_get xs i ≡ Some x → get_or xs i d ≡ x
read_is [] i x d h = absurd (none≢some x h)
read_is (y ∷ xs) zero x d h = some_same y x h
read_is (y ∷ xs) (suc i) x d h = read_is xs i x d h

-- as the code reads them
pub place_read : (cs : List ClassFile) (s : Symbols) → AreSymbols cs s → (c : ℕ) (k : ClassFile) → slice_get cs c ≡ Some k → (index : ℕ) → (index ≡ 0 → ⊥) → (row numbers : List ℕ) → row ≡ get_or s.entries.items c row → numbers ≡ row
    → symbol cs (text_at k.pool index) ≡ Some (get_or numbers (index - 1) 0)
place_read cs s t c k at index some row numbers e f =
    let same : index ≡ suc (index - 1) = omega (arith, some) in
    let read = zip_at (λ x ns. HaveNumbers s.texts x.pool ns) cs s.entries.items c k row t.entries at in
    let here = subst (λ (ns : List ℕ). HaveNumbers s.texts k.pool ns) (sym (f ∙ e)) read in
    symbol_is cs (text_at k.pool index)
    ∙ (ap (λ ts. number_in ts (text_at k.pool index)) (sym t.texts)
    ∙ (number_of_text s.texts k.pool numbers index (ap (λ ts. number_in ts []) t.texts ∙ (sym (symbol_is cs []) ∙ empty_symbol cs)) here
    ∙ ap (λ i. Some (number_at numbers i)) same))

pub no_class_text : (cs : List ClassFile) (c : ℕ) (k read : ClassFile) (index : ℕ) → slice_get cs c ≡ Some k → class_name_of (entry_at (get_or cs c read).pool index) ≡ None → symbol cs (class_text k.pool index) ≡ Some 0
no_class_text cs c k read index at none =
    ap (λ o. symbol cs (option_map_or (text_at k.pool) o [])) (ap (λ (x : ClassFile). class_name_of (entry_at x.pool index)) (sym (read_is cs c k read at)) ∙ none) ∙ empty_symbol cs
