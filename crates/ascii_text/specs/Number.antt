-- A decimal number as it stands in a text.
use Rattle.std.specs.Prelude.{◌≡◌, ℕ, ◌<◌, List, length, slice_index, decimal}
use Rattle.std.specs.Str.Parse.{AllDigits, digits_value}

-- the text is decimal digits, at least one, without a leading zero, `0` itself excepted
pub record IsDecimalNumber (text : List ℕ) : Type 0 where
  pub not_empty : 0 < length text
  pub digits : AllDigits 10 text
  pub no_leading_zero : slice_index text 0 ≡ 48 → length text ≡ 1

-- the number that the digits write
abbrev pub value_of : List ℕ → ℕ
value_of text = digits_value 10 text

-- a number is the value of exactly one decimal number, the text of its digits, which is `0` for zero
abbrev pub HasOneSpelling : ℕ → Type 0
HasOneSpelling n =
    IsDecimalNumber (decimal n) × (value_of (decimal n) ≡ n)
    × ((text : List ℕ) → IsDecimalNumber text → value_of text ≡ n → text ≡ decimal n)
