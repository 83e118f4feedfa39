-- Decimal numbers and the digits that std prints.
use Rattle.std.proofs.Common.{◌≡◌, ℕ, ◌<◌, ◌^◌, List, length, get_or, decimal, sym, ap, subst, arith, inl, inr}
use Rattle.std.proofs.lemmas.Bool.{cases_lt}
use Rattle.std.proofs.lemmas.Fmt.{decimal_is_IsNumeral, decimal_digit, first_decimal, decimal-digits_value, IsAscii-from_digits}
use Rattle.std.proofs.lemmas.Str.{IsUtf8-from_ascii}
use Rattle.std.proofs.lemmas.Str.Parse.{IsNumeralModel, numerals_by_value, tells_digits}
use Rattle.std.specs.Str.{IsUtf8}
use Rattle.std.specs.Str.Parse.{AllDigits, digits_value}
use Rattle.ascii_text.specs.Number.{IsDecimalNumber, HasOneSpelling}

own : IsNumeralModel (AllDigits 10) (digits_value 10)
own = numerals_by_value (AllDigits 10) tells_digits

-- a decimal number is ASCII, so it is UTF-8
pub IsUtf8-IsDecimalNumber : (text : List ℕ) → IsDecimalNumber text → IsUtf8 text
IsUtf8-IsDecimalNumber text h = IsUtf8-from_ascii text (IsAscii-from_digits text h.digits)

zero_alone : (n : ℕ) → n < 2 ^ 64 → get_or (decimal n) 0 0 ≡ 48 → length (decimal n) ≡ 1
zero_alone n small e = elim (cases_lt n 10) [
  | inl h ↦ ap length (decimal_digit n h)
  | inr h ↦ absurd (omega (arith, e, first_decimal n (omega arith) small))
]

pub HasOneSpelling-decimal : (n : ℕ) → n < 2 ^ 64 → HasOneSpelling n
HasOneSpelling-decimal n small =
    let numeral = decimal_is_IsNumeral n small in (
      record { not_empty = numeral.0.0; digits = numeral.0.1; no_leading_zero = zero_alone n small },
      numeral.1,
      λ text h e. sym (subst (λ (v : ℕ). decimal v ≡ text) e
          (decimal-digits_value own text h.digits h.not_empty h.no_leading_zero (subst (λ (v : ℕ). v < 2 ^ 64) (sym e) small))),
    )

pub ruleset spelling = (HasOneSpelling-decimal)
