-- Members of a class by the symbols of their names and descriptors.
use Rattle.std.proofs.Common.{◌≡◌, ℕ, ◌+◌, ◌<◌, ◌≤◌, Bool, true, false, ◌&&◌, eqb, List, [], ◌∷◌, ◌++◌, take, get_or, Option, Some, None, length, inl, inr, refl, sym, ap, ap₂, ◌∙◌, take_all, arith}
use Rattle.std.specs.Prelude.{is_some, if◌then◌else◌}
use Rattle.std.specs.Option.{option_map, option_or}
use Rattle.std.proofs.lemmas.List.{length-take-le, get_or_past}
use Rattle.std.proofs.lemmas.Grind.{take_at_read}
use Rattle.std.proofs.lemmas.Option.{slice_get_cases}
use Rattle.std.proofs.lemmas.Bool.{false≢true, and_parts, and_from, eqb-true, eq-eqb}
use Rattle.class_pool.specs.declared.class.Member.{Member}
use Rattle.class_pool.specs.declared.class.ClassFile.{ClassFile}
use Rattle.lists.specs.Lists.{onto, index_of}
use Rattle.lists.proofs.Lemmas.{some_same, onto_some, index_append}
use Rattle.lists.proofs.Lookups.{lookup_append}
use Rattle.class_lookup.specs.Parts.{Signature, signature_of, same_signature}
use Rattle.class_lookup.specs.Lookup.{declared, declared_in}
use Rattle.class_lookup.specs.Symbols.{texts, symbol}
use Rattle.class_lookup.specs.Numbered.{number_in, numbers_in, found_at, place_in, IsIndexed}
use Rattle.class_lookup.specs.Tables.{AreIndexed}
use Rattle.class_lookup.proofs.Searches.{signature_same, same_is_signature}
use Rattle.class_lookup.proofs.Numbering.{one_text}
use Rattle.class_lookup.proofs.SymbolLemmas.{symbol_is, zip_at, zip_long}

-- ---- the numbers of a name and a descriptor are theirs alone

abbrev pub key_is : ℕ × ℕ → ℕ × ℕ → Bool
key_is k l = eqb k.0 l.0 && eqb k.1 l.1

pub signed : (cs : List ClassFile) (s : Signature) (a b : ℕ) → symbol cs s.name ≡ Some a → symbol cs s.descriptor ≡ Some b → numbers_in (texts cs) s ≡ Some (a, b)
signed cs s a b h e =
    ap (λ o. onto o (λ x. onto (number_in (texts cs) s.descriptor) (λ y. Some (x, y)))) (sym (symbol_is cs s.name) ∙ h)
    ∙ ap (λ o. onto o (λ y. Some (a, y))) (sym (symbol_is cs s.descriptor) ∙ e)

one_signature : (ts : List (List ℕ)) (s t : Signature) (k : ℕ × ℕ) → numbers_in ts s ≡ Some k → numbers_in ts t ≡ Some k → s ≡ t
one_signature ts s t k h e =
    let a = onto_some (number_in ts s.name) (λ a. onto (number_in ts s.descriptor) (λ b. Some (a, b))) k h in
    let b = onto_some (number_in ts s.descriptor) (λ b. Some (a.0, b)) k a.2 in
    let c = onto_some (number_in ts t.name) (λ a. onto (number_in ts t.descriptor) (λ b. Some (a, b))) k e in
    let d = onto_some (number_in ts t.descriptor) (λ b. Some (c.0, b)) k c.2 in
    let first : c.0 ≡ a.0 = ap (λ (p : ℕ × ℕ). p.0) (some_same (c.0, d.0) k d.2 ∙ sym (some_same (a.0, b.0) k b.2)) in
    let second : d.0 ≡ b.0 = ap (λ (p : ℕ × ℕ). p.1) (some_same (c.0, d.0) k d.2 ∙ sym (some_same (a.0, b.0) k b.2)) in
    ap₂ (λ (n : List ℕ) (e : List ℕ). record { name = n; descriptor = e })
    (one_text ts s.name t.name a.0 a.1 (c.1 ∙ ap Some first)) (one_text ts s.descriptor t.descriptor b.0 b.1 (d.1 ∙ ap Some second))

bool_same : (x y : Bool) → (x ≡ true → y ≡ true) → (y ≡ true → x ≡ true) → x ≡ y
bool_same true y h e = sym (h refl)
bool_same false true h e = e refl
bool_same false false h e = refl

key_tells : (ts : List (List ℕ)) (s t : Signature) (k l : ℕ × ℕ) → numbers_in ts s ≡ Some k → numbers_in ts t ≡ Some l → key_is k l ≡ same_signature t s
key_tells ts s t k l h e = bool_same (key_is k l) (same_signature t s)
    (λ x. let p = and_parts (eqb k.0 l.0) (eqb k.1 l.1) x in
    let same : k ≡ l = ap₂ (λ (a : ℕ) (b : ℕ). (a, b)) (eqb-true k.0 l.0 p.0) (eqb-true k.1 l.1 p.1) in
    same_is_signature t s (one_signature ts t s l e (h ∙ ap Some same)))
    (λ x. let same = signature_same t s x in
    let one : k ≡ l = some_same k l (sym h ∙ (ap (numbers_in ts) (sym same) ∙ e)) in
    and_from (eqb k.0 l.0) (eqb k.1 l.1) (eq-eqb k.0 l.0 (ap (λ (p : ℕ × ℕ). p.0) one)) (eq-eqb k.1 l.1 (ap (λ (p : ℕ × ℕ). p.1) one)))

-- ---- one more member

abbrev pub sign_test : ClassFile → Signature → Member → Bool
sign_test c s m = same_signature (signature_of c m) s

one_more : (c : ClassFile) (ms : List Member) (i : ℕ) (m : Member) (s : Signature) → i < length ms → m ≡ get_or ms i m
    → index_of (sign_test c s) (take (i + 1) ms) ≡ option_or (index_of (sign_test c s) (take i ms)) (if sign_test c s m then Some i else None)
one_more c ms i m s lt is =
    let le : i ≤ length ms = omega (arith, lt) in
    ap (index_of (sign_test c s)) ((take_at_read ms i m lt).1 ∙ ap (λ (x : Member). take i ms ++ x ∷ []) (sym is))
    ∙ (index_append (sign_test c s) (take i ms) m ∙ ap (λ n. option_or (index_of (sign_test c s) (take i ms)) (if sign_test c s m then Some n else None)) (length-take-le i ms le))

pub indexed_new : (ts : List (List ℕ)) (c : ClassFile) (ms : List Member) (i : ℕ) (m : Member) (es : List ((ℕ × ℕ) × ℕ)) (l : ℕ × ℕ) → i < length ms → m ≡ get_or ms i m
    → IsIndexed ts c (take i ms) es → numbers_in ts (signature_of c m) ≡ Some l → IsIndexed ts c (take (i + 1) ms) (es ++ (l, i) ∷ [])
indexed_new ts c ms i m es l lt is h n s k e =
    lookup_append (key_is k) es l i
    ∙ (ap₂ (λ o b. option_or o (if b then Some i else None)) (h s k e) (key_tells ts s (signature_of c m) k l e n) ∙ sym (one_more c ms i m s lt is))

old_case : (o : Option ℕ) (b : Bool) (i : ℕ) → (b ≡ true → is_some o ≡ true) → o ≡ option_or o (if b then Some i else None)
old_case (Some k) b i h = refl
old_case None true i h = absurd (false≢true (h refl))
old_case None false i h = refl

pub indexed_old : (ts : List (List ℕ)) (c : ClassFile) (ms : List Member) (i : ℕ) (m : Member) (es : List ((ℕ × ℕ) × ℕ)) (l : ℕ × ℕ) → i < length ms → m ≡ get_or ms i m
    → IsIndexed ts c (take i ms) es → numbers_in ts (signature_of c m) ≡ Some l → is_some (found_at l es) ≡ true → IsIndexed ts c (take (i + 1) ms) es
indexed_old ts c ms i m es l lt is h n there s k e =
    h s k e ∙ (old_case (index_of (sign_test c s) (take i ms)) (sign_test c s m) i
    (λ x. let one : k ≡ l = some_same k l (sym e ∙ (ap (numbers_in ts) (sym (signature_same (signature_of c m) s x)) ∙ n)) in
    ap is_some (sym (h s k e)) ∙ (ap (λ p. is_some (found_at p es)) one ∙ there))
    ∙ sym (one_more c ms i m s lt is))

pub indexed_all : (ts : List (List ℕ)) (c : ClassFile) (ms : List Member) (i : ℕ) (es : List ((ℕ × ℕ) × ℕ)) → length ms ≤ i → IsIndexed ts c (take i ms) es → IsIndexed ts c ms es
indexed_all ts c ms i es g h s k e = h s k e ∙ ap (index_of (sign_test c s)) (take_all i ms g)

-- ---- what the table finds is what the class declares

pub place_is : (members : ClassFile → List Member) (cs : List ClassFile) (table : List (List ((ℕ × ℕ) × ℕ))) → AreIndexed cs members table → (s : Signature) (n : ℕ × ℕ) → numbers_in (texts cs) s ≡ Some n
    → (c : ℕ) → place_in table n c ≡ declared members cs s c
place_is members cs table t s n h c =
    let R : ClassFile → List ((ℕ × ℕ) × ℕ) → Type 0 = λ k index. IsIndexed (texts cs) k (members k) index in
    elim (slice_get_cases cs c).1 [
      | inl w ↦
          let at = w.2 in
          ap (option_map (λ i. (c, i))) (zip_at R cs table c w.0 [] t at s n h) ∙ sym (ap (λ o. onto o (λ k. option_map (λ i. (c, i)) (declared_in members s k))) at)
      | inr w ↦
          let past : length table ≤ c = let long = zip_long R cs table t in let g = w.0 in omega (arith, long, g) in
          ap (λ es. option_map (λ i. (c, i)) (found_at n es)) (get_or_past table c [] past) ∙ sym (ap (λ o. onto o (λ k. option_map (λ i. (c, i)) (declared_in members s k))) w.1)
    ]
