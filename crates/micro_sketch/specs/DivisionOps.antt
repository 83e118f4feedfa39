-- Opcodes that divide ints (JVM Specification SE 8, chapter 6).
use Rattle.std.specs.Prelude.{ℕ, ◌≢◌, ◌^◌, ◌<◌, ◌∷◌, slice_index, int_rem}
use Rattle.std.specs.Int.{w32, cast_signed, cast_unsigned, int_wrapping_div}
use Rattle.micro_sketch.specs.Sketch.{Sketch}
use Rattle.micro_sketch.specs.Row.{Effect, unchanged}
use Rattle.micro_sketch.specs.Rows.{Raising}

pub data DivisionOp : Type 0 where
  Idiv : DivisionOp
  Irem : DivisionOp

abbrev pub division_code : DivisionOp → ℕ
division_code Idiv = 108
division_code Irem = 112

-- the quotient of two words as signed numbers, rounded towards zero; that of -2 ^ 31 and -1 is -2 ^ 31
abbrev pub quotient : (dividend divisor : ℕ) → ℕ
quotient dividend divisor = cast_unsigned w32 (int_wrapping_div w32 (cast_signed w32 dividend) (cast_signed w32 divisor))

-- what is left then, with the sign of the dividend
abbrev pub remainder : (dividend divisor : ℕ) → ℕ
remainder dividend divisor = cast_unsigned w32 (int_rem (cast_signed w32 dividend) (cast_signed w32 divisor))

-- the two words on top make way for one
abbrev pub results_in : ℕ → Sketch → Effect
results_in word x = record (unchanged x) { words = word ∷ x.under }

-- what an opcode does where the divisor, which is on top, is not zero
abbrev pub division_effect : DivisionOp → Sketch → Effect
division_effect Idiv x = results_in (quotient x.next x.top) x
division_effect Irem x = results_in (remainder x.next x.top) x

-- the first object of the list of those that are raised, an ArithmeticException: the list's place is at the on-chip place 30
abbrev pub arithmetic_exception : Sketch → ℕ
arithmetic_exception x = slice_index x.memory (slice_index x.low 30)

-- a zero divisor raises it, and both operands are off the stack
abbrev pub division_raises : Sketch → Raising
division_raises x = record { words = x.under; jpc = x.jpc; object = arithmetic_exception x }

-- the operands of a division are words, and the divisor is not zero
pub record CanDivide (x : Sketch) : Type 0 where
  pub dividend : x.next < 2 ^ 32
  pub divisor : x.top < 2 ^ 32
  pub not_zero : x.top ≢ 0

-- the operands and the place of the raise list are words
pub record HasOperands (x : Sketch) : Type 0 where
  pub dividend : x.next < 2 ^ 32
  pub divisor : x.top < 2 ^ 32
  pub list : slice_index x.low 30 < 2 ^ 32
