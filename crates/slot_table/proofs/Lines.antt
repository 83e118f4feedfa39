-- A line `slot NAME LENGTH`, part by part.
use Rattle.std.proofs.Common.{◌≡◌, ◌≢◌, ℕ, ◌^◌, ◌<◌, true, false, List, [], ◌∷◌, ◌++◌, take, drop, All, decimal, refl, sym, ◌∙◌, ap, ap₂, subst, arith}
use Rattle.std.specs.Prelude.{codes, nat_eq}
use Rattle.std.proofs.lemmas.Bool.{true≢false}
use Rattle.std.proofs.lemmas.List.{append_cancel_left, take_at, take-append-drop}
use Rattle.std.specs.List.{AllByRecursion}
use Rattle.std.proofs.lemmas.List.Elements.{All-from_recursion}
use Rattle.std.proofs.lemmas.Fmt.{decimal_injective}
use Rattle.name_laws.proofs.Escapes.{written_high}
use lib.Pointwise.{pointwise, bytes_decides}
use Rattle.ascii_text.specs.Number.{IsDecimalNumber, value_of}
use Rattle.ascii_text.proofs.NumberLemmas.{HasOneSpelling-decimal}
use Rattle.slot_table.specs.declared.slot.Slot.{Slot}
use Rattle.name_laws.specs.Written.{written}
use Rattle.slot_table.specs.Slots.{name_text, slot_word, IsRightSlot}
use Rattle.slot_table.specs.Grammar.{IsSlotLine}
use Rattle.slot_table.specs.Parts.{IsCut, ArePartsOf, IsNameOf, IsWordOf}
use Rattle.slot_table.proofs.Cuts.{IsOther, no_cut, one_cut}

-- behind the word
abbrev rest_of : (name : List ℕ) (length : ℕ) → List ℕ
rest_of name n = name ++ 32 ∷ decimal n

rest_cut : (line name : List ℕ) (n : ℕ) → ArePartsOf line name n → IsCut 32 (rest_of name n) name (decimal n)
rest_cut line name n h = record { text_is = refl; first = h.no_space }

pub other_word : (line : List ℕ) → pointwise nat_eq (take 5 line) (codes "slot ") ≡ false → (name : List ℕ) (n : ℕ) → ¬ ArePartsOf line name n
other_word line other name n h =
    let front : take 5 line ≡ codes "slot " = ap (take 5) h.line_is ∙ take_at (codes "slot ") (rest_of name n) 5 refl in
    true≢false (sym ((bytes_decides (take 5 line) (codes "slot ")).1 front) ∙ other)

-- the rest of a line that begins with the word
pub word_is : (line rest : List ℕ) → pointwise nat_eq (take 5 line) (codes "slot ") ≡ true → rest ≡ drop 5 line → line ≡ codes "slot " ++ rest
word_is line rest same is = sym (take-append-drop 5 line) ∙ ap₂ (λ (xs ys : List ℕ). xs ++ ys) ((bytes_decides (take 5 line) (codes "slot ")).0 same) (sym is)

same_rest : (line rest name : List ℕ) (n : ℕ) → line ≡ codes "slot " ++ rest → ArePartsOf line name n → rest ≡ rest_of name n
same_rest line rest name n is h = append_cancel_left (codes "slot ") rest (rest_of name n) (sym is ∙ h.line_is)

pub no_space : (line rest : List ℕ) → line ≡ codes "slot " ++ rest → All (λ x. x ≢ 32) rest → (name : List ℕ) (n : ℕ) → ¬ ArePartsOf line name n
no_space line rest is none name n h =
    no_cut 32 (rest_of name n) name (decimal n) (subst (All (IsOther 32)) (same_rest line rest name n is h) none) (rest_cut line name n h)

-- the parts are those that are cut off
cut_parts : (line rest before behind name : List ℕ) (n : ℕ) → line ≡ codes "slot " ++ rest → IsCut 32 rest before behind → ArePartsOf line name n → (before ≡ name) × (behind ≡ decimal n)
cut_parts line rest before behind name n is cut h =
    one_cut 32 rest before behind name (decimal n) cut (subst (λ (t : List ℕ). IsCut 32 t name (decimal n)) (sym (same_rest line rest name n is h)) (rest_cut line name n h))

pub no_number : (line rest before behind : List ℕ) → line ≡ codes "slot " ++ rest → IsCut 32 rest before behind → ¬ (IsDecimalNumber behind × (value_of behind < 2 ^ 64)) → (name : List ℕ) (n : ℕ) → ¬ ArePartsOf line name n
no_number line rest before behind is cut none name n h =
    let same = (cut_parts line rest before behind name n is cut h).1 in
    let spelling = HasOneSpelling-decimal n h.fits in
    let value : value_of behind ≡ n = ap value_of same ∙ spelling.1 in
    let fits = h.fits in
    none (subst IsDecimalNumber (sym same) spelling.0, omega arith)

pub no_length : (line rest before behind : List ℕ) → line ≡ codes "slot " ++ rest → IsCut 32 rest before behind → value_of behind ≡ 0 → (name : List ℕ) (n : ℕ) → ¬ ArePartsOf line name n
no_length line rest before behind is cut nothing name n h =
    let same = (cut_parts line rest before behind name n is cut h).1 in
    let value : value_of behind ≡ n = ap value_of same ∙ (HasOneSpelling-decimal n h.fits).1 in
    let some = h.some in
    omega arith

pub are_parts : (line rest before behind : List ℕ) (n : ℕ) → line ≡ codes "slot " ++ rest → IsCut 32 rest before behind → IsDecimalNumber behind → value_of behind ≡ n → n ≢ 0 → n < 2 ^ 64 → ArePartsOf line before n
are_parts line rest before behind n is cut number value some fits = record {
  line_is = is ∙ ap (λ (t : List ℕ). codes "slot " ++ t) (cut.text_is ∙ ap (λ (t : List ℕ). before ++ 32 ∷ t) ((HasOneSpelling-decimal n fits).2 behind number value));
  no_space = cut.first;
  some = omega arith;
  fits = fits;
}

-- ---- the slot

pub name_is : (text class method : List ℕ) (n : ℕ) → IsNameOf text class method → text ≡ name_text record { class = class; method = method; length = n }
name_is text class method n h =
    h.text_is ∙ ap₂ (λ (a b : List ℕ). a ++ (codes "." ++ (b ++ codes "()V"))) h.class_is.text.bytes_are h.method_is.text.bytes_are

pub is_slot : (line word class method : List ℕ) (n : ℕ) → ArePartsOf line word n → IsWordOf word class method → IsSlotLine line record { class = class; method = method; length = n }
is_slot line word class method n parts w =
    let h = w.name in
    let same = sym w.written_so ∙ ap written (name_is w.text class method n h) in
    record {
      line_is = parts.line_is ∙ ap (λ (t : List ℕ). codes "slot " ++ (t ++ (codes " " ++ decimal n))) same;
      right = record { class = h.class_is.class; class_fits = h.class_is.text.fits; method = h.method_is.method; method_fits = h.method_is.text.fits; some = parts.some; fits = parts.fits };
    }

word_has_no_space : (name : List ℕ) → All (λ x. x ≢ 32) (written name)
word_has_no_space name = All-from_recursion (λ x. x ≢ 32) (written name) (each_other (written name) (written_high name))
  where
    each_other : (text : List ℕ) → AllByRecursion (λ x. 32 < x) text → AllByRecursion (λ x. x ≢ 32) text
    each_other [] h = tt
    each_other (x ∷ text) h = ((λ e. let high : 32 < x = h.0 in omega (arith, e)), each_other text h.1)

pub slot_parts : (line : List ℕ) (s : Slot) → IsSlotLine line s → ArePartsOf line (slot_word s) s.length
slot_parts line s h = record { line_is = h.line_is; no_space = word_has_no_space (name_text s); some = h.right.some; fits = h.right.fits }

pub slot_name : (s : Slot) → IsRightSlot s → IsNameOf (name_text s) s.class s.method
slot_name s right = record {
  class_text = _;
  method_text = _;
  text_is = refl;
  class_is = record { text = record { bytes_are = refl; fits = right.class_fits }; class = right.class };
  method_is = record { text = record { bytes_are = refl; fits = right.method_fits }; method = right.method };
}

pub slot_word_is : (line : List ℕ) (s : Slot) → IsSlotLine line s → IsWordOf (slot_word s) s.class s.method
slot_word_is line s h = record { text = name_text s; name = slot_name s h.right; written_so = refl }

pub no_parts : (line : List ℕ) → ((name : List ℕ) (n : ℕ) → ¬ ArePartsOf line name n) → (s : Slot) → ¬ IsSlotLine line s
no_parts line none s h = none (slot_word s) s.length (slot_parts line s h)

-- a line has one name and one length
pub one_parts : (line a b : List ℕ) (m n : ℕ) → ArePartsOf line a m → ArePartsOf line b n → (a ≡ b) × (m ≡ n)
one_parts line a b m n x y =
    let cut = cut_parts line (rest_of a m) a (decimal m) b n x.line_is (rest_cut line a m x) y in
    (cut.0, decimal_injective m n x.fits y.fits cut.1)

pub other_slot_word : (line word : List ℕ) (n : ℕ) → ArePartsOf line word n → ((class method : List ℕ) → ¬ IsWordOf word class method) → (s : Slot) → ¬ IsSlotLine line s
other_slot_word line word n parts none s h =
    let same : slot_word s ≡ word = (one_parts line (slot_word s) word s.length n (slot_parts line s h) parts).0 in
    none s.class s.method (subst (λ (t : List ℕ). IsWordOf t s.class s.method) same (slot_word_is line s h))
