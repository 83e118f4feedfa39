-- Classes by the symbols of their names, one after another; and their packages.
use Rattle.std.proofs.Common.{◌≡◌, ℕ, zero, suc, ◌+◌, ◌<◌, ◌≤◌, ◌==◌, Bool, true, false, List, [], ◌∷◌, ◌++◌, inl, inr, take, get_or, set, Option, Some, None, length, refl, sym, ap, ap₂, ◌∙◌, arith}
use Rattle.std.specs.Prelude.{slice_get, is_some, if◌then◌else◌}
use Rattle.std.specs.Option.{option_or}
use Rattle.std.proofs.lemmas.Grind.{take_at_read}
use Rattle.std.proofs.lemmas.Bool.{false≢true, cases_eq, eqb-true, eq-eqb, false_from_ne_true}
use Rattle.std.proofs.lemmas.List.{get_or-set_same, get_or-set_other, length-set, length-take-le}
use Rattle.class_pool.specs.declared.class.ClassFile.{ClassFile}
use Rattle.lists.specs.Lists.{index_of}
use Rattle.lists.proofs.Lemmas.{some_same, index_append}
use Rattle.class_lookup.specs.Parts.{same_text, name_of, class_text, package_in, same_package}
use Rattle.class_lookup.specs.Symbols.{texts, symbol}
use Rattle.class_lookup.specs.Tables.{AreNamed, ArePackages}
use Rattle.class_lookup.specs.Numbered.{number_in}
use Rattle.class_lookup.proofs.Numbering.{one_text}
use Rattle.class_lookup.proofs.Searches.{text_same, same_is_text}
use Rattle.class_lookup.proofs.SymbolLemmas.{one_symbol, symbol_below}

pub there : {A : Type 0} (xs : List A) (i : ℕ) → i < length xs → (x : A) × (slice_get xs i ≡ Some x)
there [] i lt = absurd (omega (arith, lt))
there (x ∷ xs) zero lt = (x, refl)
there (x ∷ xs) (suc i) lt = there xs i (omega (arith, lt))

pub item_at : {A : Type 0} (xs : List A) (i : ℕ) (x : A) → i < length xs → x ≡ get_or xs i x → slice_get xs i ≡ Some x
item_at [] i x lt h = absurd (omega (arith, lt))
item_at (y ∷ xs) zero x lt h = ap Some (sym h)
item_at (y ∷ xs) (suc i) x lt h = item_at xs i x (omega (arith, lt)) h

-- the symbol of a class's name is one of them
pub below_at : (cs : List ClassFile) (c index n : ℕ) → c < length cs → ((k : ClassFile) → slice_get cs c ≡ Some k → symbol cs (class_text k.pool index) ≡ Some n) → n < length (texts cs)
below_at cs c index n lt h = let k = there cs c lt in symbol_below cs (class_text (k.0).pool index) n (h k.0 k.1)

-- one class more
one_more : (cs : List ClassFile) (i : ℕ) (c : ClassFile) (text : List ℕ) → i < length cs → slice_get cs i ≡ Some c
    → index_of (λ k. same_text (name_of k) text) (take (i + 1) cs) ≡ option_or (index_of (λ k. same_text (name_of k) text) (take i cs)) (if same_text (name_of c) text then Some i else None)
one_more cs i c text lt at =
    let test : ClassFile → Bool = λ k. same_text (name_of k) text in
    let le : i ≤ length cs = omega (arith, lt) in
    ap (index_of test) ((take_at_read cs i c lt).1 ∙ ap (λ (x : ClassFile). take i cs ++ x ∷ []) (read cs i c at))
    ∙ (index_append test (take i cs) c ∙ ap (λ n. option_or (index_of test (take i cs)) (if test c then Some n else None)) (length-take-le i cs le))
  where
    read : (xs : List ClassFile) (j : ℕ) (x : ClassFile) → slice_get xs j ≡ Some x → get_or xs j x ≡ x
    read [] j x h = refl
    read (y ∷ xs) zero x h = some_same y x h
    read (y ∷ xs) (suc j) x h = read xs j x h

with_none : (o : Option ℕ) (b : Bool) (i : ℕ) → b ≡ false → option_or o (if b then Some i else None) ≡ o
with_none o true i h = absurd (false≢true (sym h))
with_none None false i h = refl
with_none (Some k) false i h = refl

pub named_new : (cs : List ClassFile) (i : ℕ) (c : ClassFile) (ns : List (Option ℕ)) (m : ℕ) → i < length cs → slice_get cs i ≡ Some c → symbol cs (name_of c) ≡ Some m → AreNamed cs (take i cs) ns → get_or ns m None ≡ None
    → AreNamed cs (take (i + 1) cs) (set ns m (Some i))
named_new cs i c ns m lt at own h none =
    let below : m < length ns = let b = symbol_below cs (name_of c) m own in let l = h.long in omega (arith, b, l) in
    record {
      long = length-set ns m (Some i) ∙ h.long;
      each = λ text n e. elim (cases_eq n m) [
        | inl s ↦
            let same = one_symbol cs text (name_of c) m (e ∙ ap Some s) own in
            let absent : index_of (λ k. same_text (name_of k) text) (take i cs) ≡ None = sym (h.each text n e) ∙ (ap (λ j. get_or ns j None) s ∙ none) in
            ap (λ j. get_or (set ns m (Some i)) j None) s ∙ (get_or-set_same ns m (Some i) None below
            ∙ sym (one_more cs i c text lt at ∙ ap₂ (λ (o : Option ℕ) (b : Bool). option_or o (if b then Some i else None)) absent (same_is_text (name_of c) text (sym same))))
        | inr s ↦
            let other = false_from_ne_true (same_text (name_of c) text) (λ x. s (some_same n m (sym e ∙ (ap (symbol cs) (sym (text_same (name_of c) text x)) ∙ own)))) in
            get_or-set_other ns m n (Some i) None s ∙ (h.each text n e ∙ (sym (with_none (index_of (λ k. same_text (name_of k) text) (take i cs)) (same_text (name_of c) text) i other) ∙ sym (one_more cs i c text lt at)))
      ];
    }

old_case : (o : Option ℕ) (b : Bool) (i : ℕ) → (b ≡ true → is_some o ≡ true) → o ≡ option_or o (if b then Some i else None)
old_case (Some k) b i h = refl
old_case None true i h = absurd (false≢true (h refl))
old_case None false i h = refl

pub named_old : (cs : List ClassFile) (i : ℕ) (c : ClassFile) (ns : List (Option ℕ)) (m : ℕ) → i < length cs → slice_get cs i ≡ Some c → symbol cs (name_of c) ≡ Some m → AreNamed cs (take i cs) ns → is_some (get_or ns m None) ≡ true
    → AreNamed cs (take (i + 1) cs) ns
named_old cs i c ns m lt at own h some = record {
  long = h.long;
  each = λ text n e.
      h.each text n e
      ∙ (old_case (index_of (λ k. same_text (name_of k) text) (take i cs)) (same_text (name_of c) text) i
      (λ x. let one : n ≡ m = some_same n m (sym e ∙ (ap (symbol cs) (sym (text_same (name_of c) text x)) ∙ own)) in ap is_some (sym (h.each text n e) ∙ ap (λ j. get_or ns j None) one) ∙ some)
      ∙ sym (one_more cs i c text lt at));
}

-- ---- packages

bool_same : (x y : Bool) → (x ≡ true → y ≡ true) → (y ≡ true → x ≡ true) → x ≡ y
bool_same true y h e = sym (h refl)
bool_same false true h e = e refl
bool_same false false h e = refl

pub packages_are : (cs : List ClassFile) (ts : List (List ℕ)) (ns : List ℕ) → length ns ≡ length cs → ((c : ℕ) (k : ClassFile) → slice_get cs c ≡ Some k → number_in ts (package_in (name_of k)) ≡ Some (get_or ns c 0)) → ArePackages cs ns
packages_are cs ts ns long h = record {
  long = long;
  each = λ c d k l atc atd. bool_same (get_or ns c 0 == get_or ns d 0) (same_package k l)
      (λ x. same_is_text (package_in (name_of k)) (package_in (name_of l)) (one_text ts (package_in (name_of k)) (package_in (name_of l)) (get_or ns c 0) (h c k atc) (h d l atd ∙ ap Some (sym (eqb-true (get_or ns c 0) (get_or ns d 0) x)))))
      (λ x. eq-eqb (get_or ns c 0) (get_or ns d 0) (some_same (get_or ns c 0) (get_or ns d 0) (sym (h c k atc) ∙ (ap (number_in ts) (text_same (package_in (name_of k)) (package_in (name_of l)) x) ∙ h d l atd))));
}

pub read_any : (ns : List (Option ℕ)) (n : ℕ) (o : Option ℕ) → n < length ns → o ≡ get_or ns n o → o ≡ get_or ns n None
read_any [] n o lt h = absurd (omega (arith, lt))
read_any (x ∷ ns) zero o lt h = h
read_any (x ∷ ns) (suc n) o lt h = read_any ns n o (omega (arith, lt)) h

pub at_read : {A : Type 0} (xs : List A) (i : ℕ) (x : A) → slice_get xs i ≡ Some x → x ≡ get_or xs i x
at_read [] i x h = refl
at_read (y ∷ xs) zero x h = sym (some_same y x h)
at_read (y ∷ xs) (suc i) x h = at_read xs i x h
