-- Decimal numbers by test and by rule.
use Rattle.std.proofs.Common.{◌≡◌, ℕ, ◌≤◌, Bool, true, not, ◌&&◌, List, [], ◌∷◌, refl, sym, ◌∙◌, ap, ap₂, arith, Some, None, inl, inr, eqb, leb}
use Rattle.std.specs.Prelude.{if◌then◌else◌}
use Rattle.std.specs.List.{list_all}
use Rattle.std.specs.Char.{is_ascii_digit}
use Rattle.std.specs.Str.Parse.{AllDigits}
use Rattle.std.proofs.lemmas.Bool.{cases_Bool, eqb-true, eq-eqb, false≢true, and_parts, leb-true, le-leb}
use Rattle.std.proofs.lemmas.Str.{digit_value_digit}
use Rattle.std.proofs.lemmas.Str.Parse.{digit_at}
use Rattle.ascii_text.specs.Number.{IsDecimalNumber, value_of}
use Rattle.microcode_asm.specs.Parts.{is_number, number_up_to}

both : (a b : Bool) → a ≡ true → b ≡ true → (a && b) ≡ true
both a b p q = ap₂ (λ x y. x && y) p q

digits_by_test : (text : List ℕ) → list_all is_ascii_digit text ≡ true → AllDigits 10 text
digits_by_test [] h = tt
digits_by_test (c ∷ cs) h =
    let parts = and_parts (is_ascii_digit c) (list_all is_ascii_digit cs) h in
    let range = and_parts (leb 48 c) (leb c 57) parts.0 in
    let low = leb-true 48 c range.0 in
    let high = leb-true c 57 range.1 in
    let value = digit_value_digit c (low, high) in
    (omega (arith, value, low, high), digits_by_test cs parts.1)

test_of_digits : (text : List ℕ) → AllDigits 10 text → list_all is_ascii_digit text ≡ true
test_of_digits [] h = refl
test_of_digits (c ∷ cs) h =
    let range = digit_at (c ∷ []) 0 (h.0, tt) (omega arith) in
    both (is_ascii_digit c) (list_all is_ascii_digit cs) (both (leb 48 c) (leb c 57) (le-leb 48 c range.0) (le-leb c 57 range.1)) (test_of_digits cs h.1)

number_by_test : (text : List ℕ) → is_number text ≡ true → IsDecimalNumber text
number_by_test [] h = absurd (false≢true h)
number_by_test (x ∷ []) h =
    let parts = and_parts (list_all is_ascii_digit (x ∷ [])) true h in
    record { not_empty = omega arith; digits = digits_by_test (x ∷ []) parts.0; no_leading_zero = λ e. refl }
number_by_test (x ∷ y ∷ zs) h =
    let parts = and_parts (list_all is_ascii_digit (x ∷ y ∷ zs)) (not (eqb x 48)) h in
    record {
      not_empty = omega arith;
      digits = digits_by_test (x ∷ y ∷ zs) parts.0;
      no_leading_zero = λ e. absurd (false≢true (sym (ap not (eq-eqb x 48 e)) ∙ parts.1));
    }

test_of_number : (text : List ℕ) → IsDecimalNumber text → is_number text ≡ true
test_of_number [] r = absurd (omega (arith, r.not_empty))
test_of_number (x ∷ []) r = both (list_all is_ascii_digit (x ∷ [])) true (test_of_digits (x ∷ []) r.digits) refl
test_of_number (x ∷ y ∷ zs) r =
    both (list_all is_ascii_digit (x ∷ y ∷ zs)) (not (eqb x 48)) (test_of_digits (x ∷ y ∷ zs) r.digits)
    (elim (cases_Bool (eqb x 48)) [
      | inl e ↦ absurd (omega (arith, r.no_leading_zero (eqb-true x 48 e)))
      | inr e ↦ ap not e
    ])

pub up_to_some : (most : ℕ) (text : List ℕ) (n : ℕ) → IsDecimalNumber text → value_of text ≡ n → n ≤ most → Some n ≡ number_up_to most text
up_to_some most text n r e le =
    sym (ap (λ b. if b then Some (value_of text) else None)
    (both (is_number text) (leb (value_of text) most) (test_of_number text r) (le-leb (value_of text) most (omega (arith, e, le))))
    ∙ ap Some e)

pub up_to_none : (most : ℕ) (text : List ℕ) → (IsDecimalNumber text → value_of text ≤ most → ⊥) → None ≡ number_up_to most text
up_to_none most text apart = elim (cases_Bool (is_number text && leb (value_of text) most)) [
  | inl e ↦
      let parts = and_parts (is_number text) (leb (value_of text) most) e in
      absurd (apart (number_by_test text parts.0) (leb-true (value_of text) most parts.1))
  | inr e ↦ sym (ap (λ b. if b then Some (value_of text) else None) e)
]

-- what is found is at most so great
pub up_to_small : (most : ℕ) (text : List ℕ) (n : ℕ) → Some n ≡ number_up_to most text → n ≤ most
up_to_small most text n h = elim (cases_Bool (is_number text && leb (value_of text) most)) [
  | inl e ↦
      let parts = and_parts (is_number text) (leb (value_of text) most) e in
      let same : Some n ≡ Some (value_of text) = h ∙ ap (λ b. if b then Some (value_of text) else None) e in
      let number : n ≡ value_of text = cc in
      omega (arith, leb-true (value_of text) most parts.1, number)
  | inr e ↦
      let none : Some n ≡ None = h ∙ ap (λ b. if b then Some (value_of text) else None) e in
      absurd (cc)
]
