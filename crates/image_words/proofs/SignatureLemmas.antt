-- Names and descriptors by their symbols, their numbers, and the first place of each.
use Rattle.std.proofs.Common.{◌≡◌, ◌≢◌, ℕ, zero, suc, ◌+◌, replicate, subst, ◌<◌, Bool, true, false, ◌&&◌, eqb, List, [], ◌∷◌, ◌++◌, inl, inr, length, get_or, Option, Some, None, refl, sym, ap, ap₂, ◌∙◌, arith}
use Rattle.std.specs.Prelude.{slice_get, slice_set, is_some, position, if◌then◌else◌}
use Rattle.std.specs.Option.{option_map_or, option_or}
use Rattle.std.specs.List.{list_any}
use Rattle.std.proofs.lemmas.Option.{slice_get_within, get_or_from_slice_get}
use Rattle.std.proofs.lemmas.Bool.{false≢true, and_from, and_parts, cases_Bool, cases_eq, eqb-true, eq-eqb, both_ways}
use Rattle.class_pool.specs.declared.class.ClassFile.{ClassFile}
use Rattle.lists.specs.Lists.{onto, index_of}
use Rattle.lists.proofs.Lemmas.{none≢some, some_same, onto_some, index_append, index_found}
use Rattle.class_lookup.specs.Laws.{MembersHaveSymbols, SymbolsStandForTexts}
use Rattle.class_lookup.specs.Lookup.{Place}
use Rattle.class_lookup.specs.Parts.{Signature, same_text, same_signature}
use Rattle.class_lookup.specs.Selection.{signature_at}
use Rattle.class_lookup.specs.Symbols.{symbol}
use Rattle.class_lookup.proofs.Searches.{text_same, same_is_text}
use Rattle.class_lookup.proofs.Selecting.{method_is}
use Rattle.program_tables.specs.Lists.{with_item}
use Rattle.program_tables.proofs.ListLemmas.{position_is}
use Rattle.image_words.specs.Signatures.{symbols_at, same_symbols, has_symbols, number_of, IsNumbered, KeepsNumbers, AreFirst}
use Rattle.image_words.specs.Slots.{are_named_alike, own_methods}
use Rattle.image_words.proofs.MemberLemmas.{own_count}
use Rattle.image_words.proofs.FillLemmas.{set_here, set_other}
use Rattle.image_words.proofs.IndexLemmas.{bool_same, or_none, any_index, some_is, none_is}

-- ---- pairs of symbols

pub symbols_same : (k l : ℕ × ℕ) → same_symbols k l ≡ true → k ≡ l
symbols_same k l h =
    let parts = and_parts (eqb k.0 l.0) (eqb k.1 l.1) h in
    ap₂ (λ (a : ℕ) (b : ℕ). (a, b)) (eqb-true k.0 l.0 parts.0) (eqb-true k.1 l.1 parts.1)

pub same_is_symbols : (k l : ℕ × ℕ) → k ≡ l → same_symbols k l ≡ true
same_is_symbols k l h = and_from (eqb k.0 l.0) (eqb k.1 l.1) (eq-eqb k.0 l.0 (ap (λ (x : ℕ × ℕ). x.0) h)) (eq-eqb k.1 l.1 (ap (λ (x : ℕ × ℕ). x.1) h))

-- a method has them
record AreSymbols (cs : List ClassFile) (m : Place) (k : ℕ × ℕ) : Type 0 where
  signature : Signature
  has : signature_at cs m ≡ Some signature
  name : symbol cs signature.name ≡ Some k.0
  descriptor : symbol cs signature.descriptor ≡ Some k.1

are_symbols : (cs : List ClassFile) (m : Place) (k : ℕ × ℕ) → symbols_at cs m ≡ Some k → AreSymbols cs m k
unfolding symbols_at
are_symbols cs m k h =
    let s = onto_some (signature_at cs m) (λ s. onto (symbol cs s.name) (λ a. onto (symbol cs s.descriptor) (λ b. Some (a, b)))) k h in
    let a = onto_some (symbol cs s.0.name) (λ a. onto (symbol cs s.0.descriptor) (λ b. Some (a, b))) k s.2 in
    let b = onto_some (symbol cs s.0.descriptor) (λ b. Some (a.0, b)) k a.2 in
    let same = some_same (a.0, b.0) k b.2 in
    record {
      signature = s.0;
      has = s.1;
      name = a.1 ∙ ap (λ (x : ℕ × ℕ). Some x.0) same;
      descriptor = b.1 ∙ ap (λ (x : ℕ × ℕ). Some x.1) same;
    }

pub symbols_are : (cs : List ClassFile) (m : Place) (s : Signature) (a b : ℕ) → signature_at cs m ≡ Some s → symbol cs s.name ≡ Some a → symbol cs s.descriptor ≡ Some b → symbols_at cs m ≡ Some (a, b)
unfolding symbols_at
symbols_are cs m s a b h n d =
    ap (λ o. onto o (λ s. onto (symbol cs s.name) (λ a. onto (symbol cs s.descriptor) (λ b. Some (a, b))))) h
    ∙ (ap (λ o. onto o (λ a. onto (symbol cs s.descriptor) (λ b. Some (a, b)))) n ∙ ap (λ o. onto o (λ b. Some (a, b))) d)

pub symbols_none : (cs : List ClassFile) (m : Place) → signature_at cs m ≡ None → symbols_at cs m ≡ None
unfolding symbols_at
symbols_none cs m h = ap (λ o. onto o (λ s. onto (symbol cs s.name) (λ a. onto (symbol cs s.descriptor) (λ b. Some (a, b))))) h

symbols_there : MembersHaveSymbols → (cs : List ClassFile) (m : Place) (s : Signature) → signature_at cs m ≡ Some s → (k : ℕ × ℕ) × AreSymbols cs m k × (symbols_at cs m ≡ Some k)
symbols_there law cs m s h =
    let d = method_is cs m s h in
    let a = law cs m.0 d.owner d.member.name d.class in
    let b = law cs m.0 d.owner d.member.descriptor d.class in
    let name = ap (λ (t : Signature). symbol cs t.name) (sym d.signature) ∙ a.1 in
    let descriptor = ap (λ (t : Signature). symbol cs t.descriptor) (sym d.signature) ∙ b.1 in
    ((a.0, b.0), record { signature = s; has = h; name = name; descriptor = descriptor }, symbols_are cs m s a.0 b.0 h name descriptor)

-- ---- names and descriptors are the same where their symbols are

text_case : SymbolsStandForTexts → (cs : List ClassFile) (t u : List ℕ) (a b : ℕ) → symbol cs t ≡ Some a → symbol cs u ≡ Some b → same_text t u ≡ eqb a b
text_case stand cs t u a b ha hb =
    bool_same (same_text t u) (eqb a b) (λ h. eq-eqb a b (some_same a b (sym ha ∙ (ap (symbol cs) (text_same t u h) ∙ hb))))
    (λ h. same_is_text t u (stand cs t u b (ha ∙ ap Some (eqb-true a b h)) hb))

alike_case : MembersHaveSymbols → SymbolsStandForTexts → (cs : List ClassFile) (m x : Place) (k : ℕ × ℕ) (d : AreSymbols cs m k) (o : Option Signature) → signature_at cs x ≡ o → option_map_or (same_signature d.signature) o false ≡ option_map_or (same_symbols k) (symbols_at cs x) false
alike_case law stand cs m x k d None h = sym (ap (λ o. option_map_or (same_symbols k) o false) (symbols_none cs x h))
alike_case law stand cs m x k d (Some t) h =
    let e = symbols_there law cs x t h in
    let same = some_same e.1.signature t (sym e.1.has ∙ h) in
    let name = text_case stand cs d.signature.name t.name k.0 e.0.0 d.name (ap (λ (s : Signature). symbol cs s.name) (sym same) ∙ e.1.name) in
    let descriptor = text_case stand cs d.signature.descriptor t.descriptor k.1 e.0.1 d.descriptor (ap (λ (s : Signature). symbol cs s.descriptor) (sym same) ∙ e.1.descriptor) in
    ap₂ (λ (x : Bool) (y : Bool). x && y) name descriptor ∙ sym (ap (λ o. option_map_or (same_symbols k) o false) e.2)

pub alike_symbols : MembersHaveSymbols → SymbolsStandForTexts → (cs : List ClassFile) (m x : Place) (k : ℕ × ℕ) → symbols_at cs m ≡ Some k → are_named_alike cs m x ≡ has_symbols cs k x
alike_symbols law stand cs m x k h =
    let d = are_symbols cs m k h in
    ap (λ o. option_map_or (λ s. option_map_or (same_signature s) (signature_at cs x) false) o false) d.has ∙ alike_case law stand cs m x k d (signature_at cs x) refl

none_case : MembersHaveSymbols → (cs : List ClassFile) (m : Place) → symbols_at cs m ≡ None → (o : Option Signature) → signature_at cs m ≡ o → o ≡ None
none_case law cs m h None e = refl
none_case law cs m h (Some s) e = absurd (let d = symbols_there law cs m s e in none≢some d.0 (sym h ∙ d.2))

pub alike_none : MembersHaveSymbols → (cs : List ClassFile) (m x : Place) → symbols_at cs m ≡ None → are_named_alike cs m x ≡ false
alike_none law cs m x h =
    ap (λ o. option_map_or (λ s. option_map_or (same_signature s) (signature_at cs x) false) o false) (none_case law cs m h (signature_at cs m) refl)

-- ---- numbers

-- as an index over pairs says it
pub number_is : (k : ℕ × ℕ) (signatures : List (ℕ × ℕ)) (o : Option ℕ) → o ≡ position (same_symbols k) signatures → o ≡ number_of signatures k
number_is k signatures o h = h ∙ position_is (same_symbols k) signatures

-- two pairs of one number are one
one_number : (signatures : List (ℕ × ℕ)) (k l : ℕ × ℕ) (n : ℕ) → number_of signatures k ≡ Some n → number_of signatures l ≡ Some n → k ≡ l
one_number signatures k l n h e =
    let f = index_found (same_symbols k) signatures n h in
    let g = index_found (same_symbols l) signatures n e in
    symbols_same k f.0 f.2 ∙ (some_same f.0 g.0 (sym f.1 ∙ g.1) ∙ sym (symbols_same l g.0 g.2))

kept_case : (signatures : List (ℕ × ℕ)) (k l : ℕ × ℕ) (n : ℕ) (b : Bool) → number_of signatures k ≡ Some n → number_of (if b then signatures else signatures ++ l ∷ []) k ≡ Some n
kept_case signatures k l n true h = h
kept_case signatures k l n false h = index_append (same_symbols k) signatures l ∙ ap (λ o. option_or o (if same_symbols k l then Some (length signatures) else None)) h

pub numbers_kept : (old new : List (ℕ × ℕ)) (l : ℕ × ℕ) → new ≡ with_item same_symbols old l → KeepsNumbers old new
numbers_kept old new l e = record { kept = λ k n h. ap (λ xs. number_of xs k) e ∙ kept_case old k l n (list_any (same_symbols l) old) h }

new_case : (old : List (ℕ × ℕ)) (l : ℕ × ℕ) (b : Bool) → list_any (same_symbols l) old ≡ b → IsNumbered (if b then old else old ++ l ∷ []) l
new_case old l true h = some_is (number_of old l) (sym (any_index (same_symbols l) old) ∙ h)
new_case old l false h =
    let none = none_is (number_of old l) (sym (any_index (same_symbols l) old) ∙ h) in (
      length old,
      index_append (same_symbols l) old l ∙ (ap (λ o. option_or o (if same_symbols l l then Some (length old) else None)) none
          ∙ ap (λ (b : Bool). if b then Some (length old) else None) (same_is_symbols l l refl)),
    )

pub number_new : (old new : List (ℕ × ℕ)) (l : ℕ × ℕ) → new ≡ with_item same_symbols old l → IsNumbered new l
number_new old new l e = subst (λ (xs : List (ℕ × ℕ)). IsNumbered xs l) (sym e) (new_case old l (list_any (same_symbols l) old) refl)

pub numbered_kept : (old new : List (ℕ × ℕ)) (k : ℕ × ℕ) → KeepsNumbers old new → IsNumbered old k → IsNumbered new k
numbered_kept old new k h n = (n.0, h.kept k n.0 n.1)

pub kept_both : (a b c : List (ℕ × ℕ)) → KeepsNumbers a b → KeepsNumbers b c → KeepsNumbers a c
kept_both a b c h e = record { kept = λ k n at. e.kept k n (h.kept k n at) }

pub kept_same : (a : List (ℕ × ℕ)) → KeepsNumbers a a
kept_same a = record { kept = λ k n at. at }

-- ---- the first place of each

pub first_start : (cs : List ClassFile) (signatures : List (ℕ × ℕ)) (cells : List (Option ℕ)) → cells ≡ replicate (length signatures) None → AreFirst cs signatures cells []
first_start cs signatures cells e = record {
  each = λ k n h.
      let f = index_found (same_symbols k) signatures n h in
      let lt = slice_get_within signatures n f.0 f.1 in
      ap (λ xs. slice_get xs n) e ∙ replicate_get (length signatures) n lt;
}
  where
    replicate_get : (m n : ℕ) → n < m → slice_get (replicate {A = Option ℕ} m None) n ≡ Some None
    replicate_get zero n lt = absurd (omega (arith, lt))
    replicate_get (suc m) zero lt = refl
    replicate_get (suc m) (suc n) lt = replicate_get m n (omega (arith, lt))

-- the number of the method's name and descriptor is that of the pair exactly where the method has that pair
number_told : (cs : List ClassFile) (signatures : List (ℕ × ℕ)) (y : Place) (k : ℕ × ℕ) (n : ℕ) (o : Option (ℕ × ℕ)) → number_of signatures k ≡ Some n → option_map_or (same_symbols k) o false ≡ true → onto o (number_of signatures) ≡ Some n
number_told cs signatures y k n None h e = absurd (false≢true e)
number_told cs signatures y k n (Some l) h e = ap (number_of signatures) (sym (symbols_same k l e)) ∙ h

told_number : (cs : List ClassFile) (signatures : List (ℕ × ℕ)) (y : Place) (k : ℕ × ℕ) (n : ℕ) (o : Option (ℕ × ℕ)) → number_of signatures k ≡ Some n → onto o (number_of signatures) ≡ Some n → option_map_or (same_symbols k) o false ≡ true
told_number cs signatures y k n None h e = absurd (none≢some n e)
told_number cs signatures y k n (Some l) h e = same_is_symbols k l (one_number signatures k l n h e)

-- what stands in the cell where another place goes behind
cell_case : (o : Option ℕ) (n : ℕ) (b : Bool) → (b ≡ true → is_some o ≡ true) → o ≡ option_or o (if b then Some n else None)
cell_case None n true h = absurd (false≢true (h refl))
cell_case None n false h = refl
cell_case (Some x) n b h = refl

pub first_kept : (cs : List ClassFile) (signatures : List (ℕ × ℕ)) (places : List Place) (y : Place) (number : Option ℕ) (cells : List (Option ℕ)) → number ≡ onto (symbols_at cs y) (number_of signatures) → AreFirst cs signatures cells places
    → ((n : ℕ) (o : Option ℕ) → number ≡ Some n → slice_get cells n ≡ Some o → is_some o ≡ true) → AreFirst cs signatures cells (places ++ y ∷ [])
first_kept cs signatures places y number cells e first there = record {
  each = λ k n h.
      let old = first.each k n h in
      old ∙ ap Some (cell_case (index_of (has_symbols cs k) places) (length places) (has_symbols cs k y)
      (λ t. there n (index_of (has_symbols cs k) places) (e ∙ number_told cs signatures y k n (symbols_at cs y) h t) old)
      ∙ sym (index_append (has_symbols cs k) places y));
}

pub first_set : (cs : List ClassFile) (signatures : List (ℕ × ℕ)) (places : List Place) (y : Place) (number : Option ℕ) (q slot : ℕ) (cells : List (Option ℕ)) → number ≡ onto (symbols_at cs y) (number_of signatures) → AreFirst cs signatures cells places
    → slot ≡ length places → number ≡ Some q → slice_get cells q ≡ Some None → AreFirst cs signatures (slice_set cells q (Some slot)) (places ++ y ∷ [])
first_set cs signatures places y number q slot cells e first long at empty = record {
  each = λ k n h.
      let old = first.each k n h in
      elim (cases_Bool (has_symbols cs k y)) [
        | inl t ↦
            let same : n ≡ q = some_same n q (sym (number_told cs signatures y k n (symbols_at cs y) h t) ∙ (sym e ∙ at)) in
            let none : index_of (has_symbols cs k) places ≡ None = some_same (index_of (has_symbols cs k) places) None (sym old ∙ (ap (slice_get cells) same ∙ empty)) in
            ap (slice_get (slice_set cells q (Some slot))) same
            ∙ (set_here cells q (Some slot) (slice_get_within cells q None empty)
            ∙ ap Some (ap Some long ∙ sym (index_append (has_symbols cs k) places y
            ∙ (ap (λ o. option_or o (if has_symbols cs k y then Some (length places) else None)) none ∙ ap (λ (b : Bool). if b then Some (length places) else None) t))))
        | inr f ↦
            let apart : n ≢ q = λ s. both_ways (has_symbols cs k y) f (told_number cs signatures y k n (symbols_at cs y) h (sym e ∙ (at ∙ ap Some (sym s)))) in
            set_other cells q n (Some slot) (index_of (has_symbols cs k) places) apart old
            ∙ ap Some (sym (index_append (has_symbols cs k) places y ∙ (ap (λ (b : Bool). option_or (index_of (has_symbols cs k) places) (if b then Some (length places) else None)) f ∙ or_none (index_of (has_symbols cs k) places))))
      ];
}

-- the cell that is read has a place
pub cell_filled : (cells : List (Option ℕ)) (q n : ℕ) (number : Option ℕ) (read o : Option ℕ) → number ≡ Some q → number ≡ Some n → read ≡ get_or cells q read → slice_get cells n ≡ Some o → is_some read ≡ true → is_some o ≡ true
cell_filled cells q n number read o at there e h t =
    let same = some_same q n (sym at ∙ there) in
    sym (ap is_some (e ∙ (ap (λ k. get_or cells k read) same ∙ get_or_from_slice_get cells n o read h))) ∙ t

-- ---- where there are names and descriptors

pub symbols_within : (cs : List ClassFile) (m : Place) (k : ℕ × ℕ) → symbols_at cs m ≡ Some k → (m.0 < length cs) × (m.1 < length (own_methods cs m.0))
symbols_within cs m k h =
    let s = are_symbols cs m k h in
    let d = method_is cs m s.signature s.has in
    let count = own_count cs m.0 d.owner d.class in
    let within = slice_get_within d.owner.methods m.1 d.member d.there in
    (slice_get_within cs m.0 d.owner d.class, omega (arith, count, within))

-- those of the first so many methods of a class are added
pub record AreAdded (cs : List ClassFile) (class n : ℕ) (start now : List (ℕ × ℕ)) : Type 0 where
  pub kept : KeepsNumbers start now
  pub there : (i : ℕ) (k : ℕ × ℕ) → i < n → symbols_at cs (class, i) ≡ Some k → IsNumbered now k

pub added_none : (cs : List ClassFile) (class : ℕ) (start : List (ℕ × ℕ)) → AreAdded cs class 0 start start
added_none cs class start = record { kept = kept_same start; there = λ i k lt h. absurd (omega (arith, lt)) }

pub added_more : (cs : List ClassFile) (class n : ℕ) (start now new : List (ℕ × ℕ)) (l : ℕ × ℕ) → AreAdded cs class n start now → symbols_at cs (class, n) ≡ Some l → new ≡ with_item same_symbols now l → AreAdded cs class (n + 1) start new
added_more cs class n start now new l before at e =
    let kept = numbers_kept now new l e in
    record {
      kept = kept_both start now new before.kept kept;
      there = λ i k lt h. elim (cases_eq i n) [
        | inl s ↦
            let same : k ≡ l = some_same k l (sym h ∙ (ap (λ j. symbols_at cs (class, j)) s ∙ at)) in
            subst (λ (x : ℕ × ℕ). IsNumbered new x) (sym same) (number_new now new l e)
        | inr f ↦ numbered_kept now new k kept (before.there i k (omega (arith, lt, f)) h)
      ];
    }

pub added_left : (cs : List ClassFile) (class n : ℕ) (start now new : List (ℕ × ℕ)) → AreAdded cs class n start now → symbols_at cs (class, n) ≡ None → new ≡ now → AreAdded cs class (n + 1) start new
added_left cs class n start now new before at e = record {
  kept = record { kept = λ k j h. ap (λ xs. number_of xs k) e ∙ before.kept.kept k j h };
  there = λ i k lt h. elim (cases_eq i n) [
    | inl s ↦ absurd (none≢some k (sym at ∙ (ap (λ j. symbols_at cs (class, j)) (sym s) ∙ h)))
    | inr f ↦ subst (λ (xs : List (ℕ × ℕ)). IsNumbered xs k) (sym e) (before.there i k (omega (arith, lt, f)) h)
  ];
}
