-- Opcodes of longs (JVM Specification SE 8, chapter 6).
use Rattle.std.specs.Prelude.{ℕ, Bool, ◌+◌, ◌-◌, ◌*◌, ◌/◌, ◌%◌, ◌^◌, ◌<◌, ◌≤◌, ◌∷◌, List, length, drop, nat_lt, if◌then◌else◌, bit_and, bit_or, bit_xor}
use Rattle.jop_core.specs.Operations.{is_negative}
use Rattle.micro_sketch.specs.Sketch.{Sketch}
use Rattle.micro_sketch.specs.Row.{Effect}
use Rattle.micro_sketch.specs.Operand.{leaves}
use Rattle.micro_sketch.specs.StackOps.{third, fourth}

pub data LongOp : Type 0 where
  Ladd : LongOp
  Lsub : LongOp
  Lneg : LongOp
  Lshl : LongOp
  Lshr : LongOp
  Lushr : LongOp
  Land : LongOp
  Lor : LongOp
  Lxor : LongOp
  I2l : LongOp
  L2i : LongOp
  Lcmp : LongOp

abbrev pub long_code : LongOp → ℕ
long_code Ladd = 97
long_code Lsub = 101
long_code Lneg = 117
long_code Lshl = 121
long_code Lshr = 123
long_code Lushr = 125
long_code Land = 127
long_code Lor = 129
long_code Lxor = 131
long_code I2l = 133
long_code L2i = 136
long_code Lcmp = 148

-- the long, as a number below 2 ^ 64 in two's complement, of a high and a low word
abbrev pub long_of : (high low : ℕ) → ℕ
long_of high low = high * 2 ^ 32 + low

-- the long on top of the stack, whose low word is the upper one, and the one below it
abbrev pub upper_long : Sketch → ℕ
upper_long x = long_of x.next x.top

abbrev pub lower_long : Sketch → ℕ
lower_long x = long_of (fourth x) (third x)

-- the long below an int
abbrev pub long_below : Sketch → ℕ
long_below x = long_of (third x) x.next

-- a long on top of other words
abbrev pub with_long : ℕ → List ℕ → List ℕ
with_long v rest = v % 2 ^ 32 ∷ v / 2 ^ 32 ∷ rest

-- a shift to the right that brings in the sign
abbrev pub long_shifted_right : (v k : ℕ) → ℕ
long_shifted_right v k = if nat_lt (2 ^ 63 - 1) v then 2 ^ 64 - 1 - (2 ^ 64 - 1 - v) / 2 ^ k else v / 2 ^ k

-- a comparison of two longs as signed numbers: moved up by 2 ^ 63 they compare as they stand
abbrev pub long_lt : (v w : ℕ) → Bool
long_lt v w = nat_lt ((v + 2 ^ 63) % 2 ^ 64) ((w + 2 ^ 63) % 2 ^ 64)

abbrev pub long_effect : LongOp → Sketch → Effect
long_effect Ladd x = leaves (with_long ((lower_long x + upper_long x) % 2 ^ 64) (drop 2 x.under)) x
long_effect Lsub x = leaves (with_long ((lower_long x + (2 ^ 64 - upper_long x)) % 2 ^ 64) (drop 2 x.under)) x
long_effect Lneg x = leaves (with_long ((2 ^ 64 - upper_long x) % 2 ^ 64) x.under) x
long_effect Lshl x = leaves (with_long ((long_below x * 2 ^ (x.top % 64)) % 2 ^ 64) (drop 1 x.under)) x
long_effect Lshr x = leaves (with_long (long_shifted_right (long_below x) (x.top % 64)) (drop 1 x.under)) x
long_effect Lushr x = leaves (with_long (long_below x / 2 ^ (x.top % 64)) (drop 1 x.under)) x
long_effect Land x = leaves (bit_and (third x) x.top ∷ bit_and (fourth x) x.next ∷ drop 2 x.under) x
long_effect Lor x = leaves (bit_or (third x) x.top ∷ bit_or (fourth x) x.next ∷ drop 2 x.under) x
long_effect Lxor x = leaves (bit_xor (third x) x.top ∷ bit_xor (fourth x) x.next ∷ drop 2 x.under) x
long_effect I2l x = leaves (x.top ∷ (if is_negative x.top then 2 ^ 32 - 1 else 0) ∷ x.next ∷ x.under) x
long_effect L2i x = leaves (x.top ∷ x.under) x
long_effect Lcmp x = leaves ((if long_lt (lower_long x) (upper_long x) then 2 ^ 32 - 1 else if long_lt (upper_long x) (lower_long x) then 1 else 0)
    ∷ drop 2 x.under) x

-- four words lie below B where four are taken off, and the operands are words
pub record HasTwoLongs (x : Sketch) : Type 0 where
  pub four : 4 ≤ length x.under
  pub low : x.top < 2 ^ 32
  pub high : x.next < 2 ^ 32
  pub lower_low : third x < 2 ^ 32
  pub lower_high : fourth x < 2 ^ 32

-- an int, and the long below it, are of words
pub record HasLongBelow (x : Sketch) : Type 0 where
  pub count : x.top < 2 ^ 32
  pub low : x.next < 2 ^ 32
  pub high : third x < 2 ^ 32

abbrev pub long_ready : LongOp → Sketch → Type 0
long_ready Lneg x = (x.top < 2 ^ 32) × (x.next < 2 ^ 32)
long_ready Lshl x = HasLongBelow x
long_ready Lshr x = HasLongBelow x
long_ready Lushr x = HasLongBelow x
long_ready I2l x = x.top < 2 ^ 32
long_ready L2i x = Unit {0}
long_ready op x = HasTwoLongs x
