-- Numbers in hexadecimal digits, lower case.
use Rattle.std.specs.Prelude.{ℕ, zero, suc, ◌+◌, ◌/◌, ◌%◌, nat_lt, if◌then◌else◌, List, [], ◌∷◌, ◌++◌, drop}

-- 0 to 9 and a to f, as ASCII codes
abbrev pub hex_digit : ℕ → ℕ
hex_digit d = if nat_lt d 10 then 48 + d else 87 + d

-- so many digits, the last ones of the number
abbrev pub hex : (digits : ℕ) → ℕ → List ℕ
hex zero n = []
hex (suc k) n = hex k (n / 16) ++ hex_digit (n % 16) ∷ []

-- three digits, or eight where three don't do
abbrev pub short_hex : ℕ → List ℕ
short_hex n = if nat_lt n 4096 then drop 5 (hex 8 n) else hex 8 n
