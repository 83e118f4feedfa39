-- What is computed of two ints, as an int (JVM Specification SE 8, 2.11.3 and 6.5).
use Rattle.std.specs.Prelude.{◌≡◌, ◌≢◌, ℤ, pos, Some}
use Rattle.std.specs.Int.{w32, int_wrap}
use Rattle.known_ints.specs.declared.rows.Arithmetic.{Arithmetic}
use Rattle.known_ints.specs.declared.rows.Arithmetic.TheVariants.{Quotient, Remainder}
use Rattle.known_ints.specs.Rows.{computed_of}

-- it is what is computed, of the second int and the first, in 32 bits
abbrev pub IsComputed : Arithmetic → (y x c : ℤ) → Type 0
IsComputed a y x c = (z : ℤ) × (computed_of a y x ≡ Some z) × (c ≡ int_wrap w32 z)

-- a divisor isn't zero
abbrev pub Takes : Arithmetic → ℤ → Type 0
Takes Quotient y = y ≢ pos 0
Takes Remainder y = y ≢ pos 0
Takes a y = Unit {0}
