-- Opcodes that move words of the stack, and those of ints (JVM Specification SE 8, chapter 6).
use Rattle.std.specs.Prelude.{ℕ, ◌+◌, ◌-◌, ◌*◌, ◌/◌, ◌%◌, ◌^◌, ◌<◌, ◌≤◌, ◌∷◌, length, drop, slice_index, bit_and, bit_or, bit_xor}
use Rattle.jop_core.specs.Operations.{sign_extended8, sign_extended16, shifted_right}
use Rattle.micro_sketch.specs.Sketch.{Sketch}
use Rattle.micro_sketch.specs.Row.{Effect}
use Rattle.micro_sketch.specs.Operand.{pushes, leaves}

pub data StackOp : Type 0 where
  Pop : StackOp
  Pop2 : StackOp
  Dup : StackOp
  DupX1 : StackOp
  DupX2 : StackOp
  Dup2 : StackOp
  Dup2X1 : StackOp
  Dup2X2 : StackOp
  Swap : StackOp
  Iadd : StackOp
  Isub : StackOp
  Imul : StackOp
  Ineg : StackOp
  Ishl : StackOp
  Ishr : StackOp
  Iushr : StackOp
  Iand : StackOp
  Ior : StackOp
  Ixor : StackOp
  I2b : StackOp
  I2c : StackOp
  I2s : StackOp

abbrev pub stack_code : StackOp → ℕ
stack_code Pop = 87
stack_code Pop2 = 88
stack_code Dup = 89
stack_code DupX1 = 90
stack_code DupX2 = 91
stack_code Dup2 = 92
stack_code Dup2X1 = 93
stack_code Dup2X2 = 94
stack_code Swap = 95
stack_code Iadd = 96
stack_code Isub = 100
stack_code Imul = 104
stack_code Ineg = 116
stack_code Ishl = 120
stack_code Ishr = 122
stack_code Iushr = 124
stack_code Iand = 126
stack_code Ior = 128
stack_code Ixor = 130
stack_code I2b = 145
stack_code I2c = 146
stack_code I2s = 147

-- word k below B, the first being 0, and the words past so many of these
abbrev pub third : Sketch → ℕ
third x = slice_index x.under 0

abbrev pub fourth : Sketch → ℕ
fourth x = slice_index x.under 1

abbrev pub stack_effect : StackOp → Sketch → Effect
stack_effect Pop x = leaves (x.next ∷ x.under) x
stack_effect Pop2 x = leaves x.under x
stack_effect Dup x = pushes x.top x
stack_effect DupX1 x = leaves (x.top ∷ x.next ∷ x.top ∷ x.under) x
stack_effect DupX2 x = leaves (x.top ∷ x.next ∷ third x ∷ x.top ∷ drop 1 x.under) x
stack_effect Dup2 x = leaves (x.top ∷ x.next ∷ x.top ∷ x.next ∷ x.under) x
stack_effect Dup2X1 x = leaves (x.top ∷ x.next ∷ third x ∷ x.top ∷ x.next ∷ drop 1 x.under) x
stack_effect Dup2X2 x = leaves (x.top ∷ x.next ∷ third x ∷ fourth x ∷ x.top ∷ x.next ∷ drop 2 x.under) x
stack_effect Swap x = leaves (x.next ∷ x.top ∷ x.under) x
stack_effect Iadd x = leaves ((x.next + x.top) % 2 ^ 32 ∷ x.under) x
stack_effect Isub x = leaves ((x.next + (2 ^ 32 - x.top)) % 2 ^ 32 ∷ x.under) x
stack_effect Imul x = leaves ((x.next * x.top) % 2 ^ 32 ∷ x.under) x
stack_effect Ineg x = leaves ((2 ^ 32 - x.top) % 2 ^ 32 ∷ x.next ∷ x.under) x
stack_effect Ishl x = leaves ((x.next * 2 ^ (x.top % 32)) % 2 ^ 32 ∷ x.under) x
stack_effect Ishr x = leaves (shifted_right x.next (x.top % 32) ∷ x.under) x
stack_effect Iushr x = leaves (x.next / 2 ^ (x.top % 32) ∷ x.under) x
stack_effect Iand x = leaves (bit_and x.next x.top ∷ x.under) x
stack_effect Ior x = leaves (bit_or x.next x.top ∷ x.under) x
stack_effect Ixor x = leaves (bit_xor x.next x.top ∷ x.under) x
stack_effect I2b x = leaves (sign_extended8 x.top ∷ x.next ∷ x.under) x
stack_effect I2c x = leaves (x.top % 2 ^ 16 ∷ x.next ∷ x.under) x
stack_effect I2s x = leaves (sign_extended16 x.top ∷ x.next ∷ x.under) x

-- what an opcode needs beyond room on the stack: four words below B where it takes four words off, and that its operand is a word
abbrev pub stack_ready : StackOp → Sketch → Type 0
stack_ready Dup2X2 x = 4 ≤ length x.under
stack_ready Ineg x = x.top < 2 ^ 32
stack_ready op x = Unit {0}
