-- Each text of a class has a symbol.
use Rattle.std.proofs.Common.{◌≡◌, ℕ, zero, suc, Bool, true, false, List, [], ◌∷◌, ◌++◌, Option, Some, None, length, refl, sym, ap, ◌∙◌, subst}
use Rattle.std.specs.Prelude.{slice_get, is_some, unwrap_or, if◌then◌else◌}
use Rattle.std.specs.Option.{option_map_or}
use Rattle.std.specs.List.{flat_map, list_any, cons_option}
use Rattle.class_pool.specs.declared.entry.Entry.{Entry}
use Rattle.class_pool.specs.declared.class.ClassFile.{ClassFile}
use Rattle.class_pool.specs.Grammar.{utf8_of, entry_at, class_name_of, text_at}
use Rattle.lists.proofs.Lemmas.{none≢some, some_same, index_found}
use Rattle.class_lookup.specs.Parts.{same_text, name_of}
use Rattle.class_lookup.specs.Lists.{with_item, with_items}
use Rattle.class_lookup.specs.Hierarchy.{find_class}
use Rattle.class_lookup.specs.Symbols.{pool_texts, symbol}
use Rattle.class_lookup.specs.Numbered.{number_in}
use Rattle.class_lookup.proofs.Searches.{text_same}
use Rattle.class_lookup.proofs.Numbering.{found_any, not_some, new_number, all_kept}
use Rattle.class_lookup.proofs.Mentions.{with_items-append}
use Rattle.class_lookup.proofs.SymbolLemmas.{texts_are, symbol_is, empty_symbol}

abbrev pub HasNumber : List (List ℕ) → List ℕ → Type 0
HasNumber ts t = (n : ℕ) × (number_in ts t ≡ Some n)

value_of : (o : Option ℕ) → is_some o ≡ true → (n : ℕ) × (o ≡ Some n)
value_of None h = absurd (let f : false ≡ true = h in cc)
value_of (Some n) h = (n, refl)

put_case : (ts : List (List ℕ)) (t : List ℕ) (b : Bool) → list_any (same_text t) ts ≡ b → HasNumber (if b then ts else ts ++ t ∷ []) t
put_case ts t true h = value_of (number_in ts t) (found_any (same_text t) ts ∙ h)
put_case ts t false h = (length ts, new_number ts t (not_some (number_in ts t) (found_any (same_text t) ts ∙ h)))

put_number : (ts : List (List ℕ)) (t : List ℕ) → HasNumber (with_item same_text ts t) t
put_number ts t = put_case ts t (list_any (same_text t) ts) refl

has_kept : (ts more : List (List ℕ)) (t : List ℕ) → HasNumber ts t → HasNumber (with_items same_text ts more) t
has_kept ts more t h = (h.0, all_kept ts more t h.0 h.1)

first_case : (ts : List (List ℕ)) (es : List Entry) (o : Option (List ℕ)) → HasNumber ts [] → HasNumber (with_items same_text ts (cons_option o (pool_texts es))) (unwrap_or o [])
first_case ts es None h = has_kept ts (pool_texts es) [] h
first_case ts es (Some u) h = has_kept (with_item same_text ts u) (pool_texts es) u (put_number ts u)

later_case : (ts : List (List ℕ)) (es : List Entry) (t : List ℕ) (o : Option (List ℕ)) → HasNumber ts [] → ((zs : List (List ℕ)) → HasNumber zs [] → HasNumber (with_items same_text zs (pool_texts es)) t)
    → HasNumber (with_items same_text ts (cons_option o (pool_texts es))) t
later_case ts es t None h later = later ts h
later_case ts es t (Some u) h later = later (with_item same_text ts u) (has_kept ts (u ∷ []) [] h)

in_pool : (ts : List (List ℕ)) (es : List Entry) (place : ℕ) → HasNumber ts [] → HasNumber (with_items same_text ts (pool_texts es)) (unwrap_or (utf8_of (slice_get es place)) [])
in_pool ts [] place h = h
in_pool ts (e ∷ es) zero h = first_case ts es (utf8_of (Some e)) h
in_pool ts (e ∷ es) (suc place) h = later_case ts es (unwrap_or (utf8_of (slice_get es place)) []) (utf8_of (Some e)) h (λ zs z. in_pool zs es place z)

in_text : (ts : List (List ℕ)) (es : List Entry) (index : ℕ) → HasNumber ts [] → HasNumber (with_items same_text ts (pool_texts es)) (text_at es index)
in_text ts es zero h = has_kept ts (pool_texts es) [] h
in_text ts es (suc place) h = in_pool ts es place h

in_class : (ts : List (List ℕ)) (cs : List ClassFile) (k : ℕ) (c : ClassFile) (index : ℕ) → HasNumber ts [] → slice_get cs k ≡ Some c → HasNumber (with_items same_text ts (flat_map (λ x. pool_texts x.pool) cs)) (text_at c.pool index)
in_class ts [] k c index h at = absurd (none≢some c at)
in_class ts (x ∷ cs) zero c index h at =
    let rest = flat_map (λ y. pool_texts y.pool) cs in
    subst (λ xs. HasNumber xs (text_at c.pool index)) (sym (with_items-append same_text ts (pool_texts x.pool) rest))
    (has_kept (with_items same_text ts (pool_texts x.pool)) rest (text_at c.pool index)
    (subst (λ y. HasNumber (with_items same_text ts (pool_texts x.pool)) (text_at y.pool index)) (some_same x c at) (in_text ts x.pool index h)))
in_class ts (x ∷ cs) (suc k) c index h at =
    let rest = flat_map (λ y. pool_texts y.pool) cs in
    subst (λ xs. HasNumber xs (text_at c.pool index)) (sym (with_items-append same_text ts (pool_texts x.pool) rest))
    (in_class (with_items same_text ts (pool_texts x.pool)) cs k c index (has_kept ts (pool_texts x.pool) [] h) at)

pub has_symbol : (cs : List ClassFile) (k : ℕ) (c : ClassFile) (index : ℕ) → slice_get cs k ≡ Some c → (n : ℕ) × (symbol cs (text_at c.pool index) ≡ Some n)
has_symbol cs k c index at =
    let h = in_class ([] ∷ []) cs k c index (0, refl) at in
    (h.0, symbol_is cs (text_at c.pool index) ∙ (ap (λ ts. number_in ts (text_at c.pool index)) (sym (texts_are cs)) ∙ h.1))

-- a class's name has one
named_case : (cs : List ClassFile) (k : ℕ) (c : ClassFile) → slice_get cs k ≡ Some c → (o : Option ℕ) → class_name_of (entry_at c.pool c.this_class) ≡ o → (n : ℕ) × (symbol cs (name_of c) ≡ Some n)
named_case cs k c at None e = (0, ap (λ o. symbol cs (option_map_or (text_at c.pool) o [])) e ∙ empty_symbol cs)
named_case cs k c at (Some i) e = let h = has_symbol cs k c i at in (h.0, ap (λ o. symbol cs (option_map_or (text_at c.pool) o [])) e ∙ h.1)

-- no class has a name without a symbol
unnamed_case : (cs : List ClassFile) (text : List ℕ) → symbol cs text ≡ None → (o : Option ℕ) → find_class cs text ≡ o → o ≡ None
unnamed_case cs text none None e = refl
unnamed_case cs text none (Some k) e =
    let f = index_found (λ c. same_text (name_of c) text) cs k e in
    let n = named_case cs k f.0 f.1 (class_name_of (entry_at (f.0).pool (f.0).this_class)) refl in
    absurd (none≢some n.0 (sym none ∙ (ap (symbol cs) (sym (text_same (name_of f.0) text f.2)) ∙ n.1)))

pub unnamed : (cs : List ClassFile) (text : List ℕ) → symbol cs text ≡ None → find_class cs text ≡ None
unnamed cs text none = unnamed_case cs text none (find_class cs text) refl
