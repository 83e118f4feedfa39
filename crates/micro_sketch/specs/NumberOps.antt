-- Opcodes that push a number (JVM Specification SE 8, chapter 6).
use Rattle.std.specs.Prelude.{ℕ, ◌-◌, ◌^◌}
use Rattle.jop_core.specs.Operations.{sign_extended8, sign_extended16}
use Rattle.micro_sketch.specs.Sketch.{Sketch}
use Rattle.micro_sketch.specs.Row.{Effect, unchanged}
use Rattle.micro_sketch.specs.Operand.{byte_operand, two_byte_operand, behind, pushes, pushes_two, pool_word, second_pool_word}

pub data NumberOp : Type 0 where
  Nop : NumberOp
  AconstNull : NumberOp
  IconstM1 : NumberOp
  Iconst0 : NumberOp
  Iconst1 : NumberOp
  Iconst2 : NumberOp
  Iconst3 : NumberOp
  Iconst4 : NumberOp
  Iconst5 : NumberOp
  Lconst0 : NumberOp
  Lconst1 : NumberOp
  Bipush : NumberOp
  Sipush : NumberOp
  Ldc : NumberOp
  LdcW : NumberOp
  Ldc2W : NumberOp

abbrev pub number_code : NumberOp → ℕ
number_code Nop = 0
number_code AconstNull = 1
number_code IconstM1 = 2
number_code Iconst0 = 3
number_code Iconst1 = 4
number_code Iconst2 = 5
number_code Iconst3 = 6
number_code Iconst4 = 7
number_code Iconst5 = 8
number_code Lconst0 = 9
number_code Lconst1 = 10
number_code Bipush = 16
number_code Sipush = 17
number_code Ldc = 18
number_code LdcW = 19
number_code Ldc2W = 20

abbrev pub number_effect : NumberOp → Sketch → Effect
number_effect Nop x = unchanged x
number_effect AconstNull x = pushes 0 x
number_effect IconstM1 x = pushes (2 ^ 32 - 1) x
number_effect Iconst0 x = pushes 0 x
number_effect Iconst1 x = pushes 1 x
number_effect Iconst2 x = pushes 2 x
number_effect Iconst3 x = pushes 3 x
number_effect Iconst4 x = pushes 4 x
number_effect Iconst5 x = pushes 5 x
number_effect Lconst0 x = pushes_two 0 0 x
number_effect Lconst1 x = pushes_two 1 0 x
number_effect Bipush x = behind 1 x (pushes (sign_extended8 (byte_operand x)) x)
number_effect Sipush x = behind 2 x (pushes (sign_extended16 (two_byte_operand x)) x)
number_effect Ldc x = behind 1 x (pushes (pool_word x (byte_operand x)) x)
number_effect LdcW x = behind 2 x (pushes (pool_word x (two_byte_operand x)) x)
number_effect Ldc2W x = behind 2 x (pushes_two (second_pool_word x (two_byte_operand x)) (pool_word x (two_byte_operand x)) x)
