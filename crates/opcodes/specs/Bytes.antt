-- Numbers in the bytes of a code, high byte first: JVM Specification SE 8, 4.1 and 6.5.
-- A byte past the end counts as 0; where an instruction is whole, none of its bytes is such.
use Rattle.std.specs.Prelude.{ℕ, ◌+◌, ◌*◌, List, slice_index, ℤ}
use Rattle.std.specs.Int.{w8, w16, w32, cast_signed}

abbrev pub u1 : List ℕ → ℕ → ℕ
u1 code place = slice_index code place

abbrev pub u2 : List ℕ → ℕ → ℕ
u2 code place = u1 code place * 256 + u1 code (place + 1)

abbrev pub u4 : List ℕ → ℕ → ℕ
u4 code place = u2 code place * 65536 + u2 code (place + 2)

-- the same bits, in two's complement
abbrev pub s1 : List ℕ → ℕ → ℤ
s1 code place = cast_signed w8 (u1 code place)

abbrev pub s2 : List ℕ → ℕ → ℤ
s2 code place = cast_signed w16 (u2 code place)

abbrev pub s4 : List ℕ → ℕ → ℤ
s4 code place = cast_signed w32 (u4 code place)
