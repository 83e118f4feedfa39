-- The arithmetic of int and long: JVM Specification SE 8, 2.11.3 and 6.5. Each result wraps at its type's width where it is pushed (see `number` in Effects).
use Rattle.std.specs.Prelude.{ℕ, zero, ◌/◌, ◌%◌, ◌^◌, ℤ, pos, negsuc, ◌+ℤ◌, ◌-ℤ◌, ◌*ℤ◌, int_lt, int_div, int_rem, Bool, not, ◌||◌, if◌then◌else◌, Option, Some}
use Rattle.std.specs.Prelude.{None}
use Rattle.std.specs.Int.{Width, w16, w32, int_wrap, cast_unsigned}

-- The second operand of an instruction is on top of the first: it comes first here.

abbrev pub sum : ℤ → ℤ → ℤ
sum y x = x +ℤ y

abbrev pub difference : ℤ → ℤ → ℤ
difference y x = x -ℤ y

abbrev pub product : ℤ → ℤ → ℤ
product y x = x *ℤ y

abbrev pub negated : ℤ → ℤ
negated x = pos 0 -ℤ x

-- towards zero; none for a zero divisor
abbrev pub quotient : ℤ → ℤ → Option ℤ
quotient (pos zero) x = None
quotient y x = Some (int_div x y)

-- with the sign of the dividend; none for a zero divisor
abbrev pub remainder : ℤ → ℤ → Option ℤ
remainder (pos zero) x = None
remainder y x = Some (int_rem x y)

-- bit by bit, in two's complement
abbrev pub bitwise : Width → (ℕ → ℕ → ℕ) → ℤ → ℤ → ℤ
bitwise w f y x = pos (f (cast_unsigned w x) (cast_unsigned w y))

-- the distance of a shift: the low five bits of an int, or six for a long
abbrev pub distance : (bits : ℕ) → ℤ → ℕ
distance bits n = cast_unsigned w32 n % bits

abbrev pub shifted_left : (bits : ℕ) → ℤ → ℤ → ℤ
shifted_left bits n x = x *ℤ pos (2 ^ distance bits n)

-- a quotient rounded down
abbrev pub floor_quotient : ℤ → ℕ → ℤ
floor_quotient (pos n) d = pos (n / d)
floor_quotient (negsuc n) d = negsuc (n / d)

abbrev pub shifted_right : (bits : ℕ) → ℤ → ℤ → ℤ
shifted_right bits n x = floor_quotient x (2 ^ distance bits n)

abbrev pub shifted_right_unsigned : Width → (bits : ℕ) → ℤ → ℤ → ℤ
shifted_right_unsigned w bits n x = pos (cast_unsigned w x / 2 ^ distance bits n)

-- −1, 0 or 1 (6.5.lcmp)
abbrev pub compared : ℤ → ℤ → ℤ
compared y x = if int_lt x y then negsuc 0 else if int_lt y x then pos 1 else pos 0

-- a number as it is (6.5.i2l, l2i), narrowed to a signed width (6.5.i2b, i2s) and to a char (6.5.i2c)
abbrev pub unchanged : ℤ → ℤ
unchanged x = x

abbrev pub narrowed : Width → ℤ → ℤ
narrowed w x = int_wrap w x

-- the low bits of a number, as many as the width has
abbrev pub low_bits : Width → ℤ → ℕ
low_bits w x = cast_unsigned w (int_wrap w x)

abbrev pub as_char : ℤ → ℤ
as_char x = pos (low_bits w16 x)

-- the comparisons of conditional branches
abbrev pub is_equal : ℤ → ℤ → Bool
is_equal y x = not (int_lt x y || int_lt y x)

abbrev pub is_unequal : ℤ → ℤ → Bool
is_unequal y x = int_lt x y || int_lt y x

abbrev pub is_less : ℤ → ℤ → Bool
is_less y x = int_lt x y

abbrev pub is_at_least : ℤ → ℤ → Bool
is_at_least y x = not (int_lt x y)

abbrev pub is_greater : ℤ → ℤ → Bool
is_greater y x = int_lt y x

abbrev pub is_at_most : ℤ → ℤ → Bool
is_at_most y x = not (int_lt y x)
