-- The opcodes that compute, one by one.
use Rattle.std.proofs.Common.{[], ◌∷◌, Some, refl}
use Rattle.std.specs.Prelude.{bit_and, bit_or, bit_xor}
use Rattle.std.specs.Int.{w8, w16, w32, w64}
use Rattle.opcodes.specs.Row as opcodes
use Rattle.micro_sketch.specs.Opcodes.{OfStack, OfLong}
use Rattle.micro_sketch.specs.StackOps as stack
use Rattle.micro_sketch.specs.LongOps as long
use Rattle.bytecode_model.specs.Types.{IntType, LongType}
use Rattle.bytecode_model.specs.Numbers.{sum, difference, product, negated, bitwise, shifted_left, shifted_right, shifted_right_unsigned, compared, unchanged, narrowed, as_char}
use Rattle.bytecode_model.specs.Table.{row_of}
use Rattle.opcode_steps.proofs.NumberLemmas.Results as results
use Rattle.opcode_steps.proofs.NumberLemmas.Scenes.{Laws, Line}
use Rattle.opcode_steps.proofs.NumberLemmas.Computing.{computes}

pub iadd : Laws → Line 96
unfolding opcodes.row_of row_of
iadd laws = computes laws 96 (OfStack stack.Iadd) (IntType ∷ IntType ∷ []) IntType (λ y x. Some (sum y x)) _ refl refl (λ bytes pc operand. refl) (λ ns. refl) results.iadd

pub ladd : Laws → Line 97
unfolding opcodes.row_of row_of
ladd laws = computes laws 97 (OfLong long.Ladd) (LongType ∷ LongType ∷ []) LongType (λ y x. Some (sum y x)) _ refl refl (λ bytes pc operand. refl) (λ ns. refl) results.ladd

pub isub : Laws → Line 100
unfolding opcodes.row_of row_of
isub laws = computes laws 100 (OfStack stack.Isub) (IntType ∷ IntType ∷ []) IntType (λ y x. Some (difference y x)) _ refl refl (λ bytes pc operand. refl) (λ ns. refl) results.isub

pub lsub : Laws → Line 101
unfolding opcodes.row_of row_of
lsub laws = computes laws 101 (OfLong long.Lsub) (LongType ∷ LongType ∷ []) LongType (λ y x. Some (difference y x)) _ refl refl (λ bytes pc operand. refl) (λ ns. refl) results.lsub

pub imul : Laws → Line 104
unfolding opcodes.row_of row_of
imul laws = computes laws 104 (OfStack stack.Imul) (IntType ∷ IntType ∷ []) IntType (λ y x. Some (product y x)) _ refl refl (λ bytes pc operand. refl) (λ ns. refl) results.imul

pub ineg : Laws → Line 116
unfolding opcodes.row_of row_of
ineg laws = computes laws 116 (OfStack stack.Ineg) (IntType ∷ []) IntType (λ x. Some (negated x)) _ refl refl (λ bytes pc operand. refl) (λ ns. refl) results.ineg

pub lneg : Laws → Line 117
unfolding opcodes.row_of row_of
lneg laws = computes laws 117 (OfLong long.Lneg) (LongType ∷ []) LongType (λ x. Some (negated x)) _ refl refl (λ bytes pc operand. refl) (λ ns. refl) results.lneg

pub ishl : Laws → Line 120
unfolding opcodes.row_of row_of
ishl laws = computes laws 120 (OfStack stack.Ishl) (IntType ∷ IntType ∷ []) IntType (λ y x. Some (shifted_left 32 y x)) _ refl refl (λ bytes pc operand. refl) (λ ns. refl) results.ishl

pub lshl : Laws → Line 121
unfolding opcodes.row_of row_of
lshl laws = computes laws 121 (OfLong long.Lshl) (IntType ∷ LongType ∷ []) LongType (λ y x. Some (shifted_left 64 y x)) _ refl refl (λ bytes pc operand. refl) (λ ns. refl) results.lshl

pub ishr : Laws → Line 122
unfolding opcodes.row_of row_of
ishr laws = computes laws 122 (OfStack stack.Ishr) (IntType ∷ IntType ∷ []) IntType (λ y x. Some (shifted_right 32 y x)) _ refl refl (λ bytes pc operand. refl) (λ ns. refl) results.ishr

pub lshr : Laws → Line 123
unfolding opcodes.row_of row_of
lshr laws = computes laws 123 (OfLong long.Lshr) (IntType ∷ LongType ∷ []) LongType (λ y x. Some (shifted_right 64 y x)) _ refl refl (λ bytes pc operand. refl) (λ ns. refl) results.lshr

pub iushr : Laws → Line 124
unfolding opcodes.row_of row_of
iushr laws = computes laws 124 (OfStack stack.Iushr) (IntType ∷ IntType ∷ []) IntType (λ y x. Some (shifted_right_unsigned w32 32 y x)) _ refl refl (λ bytes pc operand. refl) (λ ns. refl) results.iushr

pub lushr : Laws → Line 125
unfolding opcodes.row_of row_of
lushr laws = computes laws 125 (OfLong long.Lushr) (IntType ∷ LongType ∷ []) LongType (λ y x. Some (shifted_right_unsigned w64 64 y x)) _ refl refl (λ bytes pc operand. refl) (λ ns. refl) results.lushr

pub iand : Laws → Line 126
unfolding opcodes.row_of row_of
iand laws = computes laws 126 (OfStack stack.Iand) (IntType ∷ IntType ∷ []) IntType (λ y x. Some (bitwise w32 bit_and y x)) _ refl refl (λ bytes pc operand. refl) (λ ns. refl) results.iand

pub land : Laws → Line 127
unfolding opcodes.row_of row_of
land laws = computes laws 127 (OfLong long.Land) (LongType ∷ LongType ∷ []) LongType (λ y x. Some (bitwise w64 bit_and y x)) _ refl refl (λ bytes pc operand. refl) (λ ns. refl) results.land

pub ior : Laws → Line 128
unfolding opcodes.row_of row_of
ior laws = computes laws 128 (OfStack stack.Ior) (IntType ∷ IntType ∷ []) IntType (λ y x. Some (bitwise w32 bit_or y x)) _ refl refl (λ bytes pc operand. refl) (λ ns. refl) results.ior

pub lor : Laws → Line 129
unfolding opcodes.row_of row_of
lor laws = computes laws 129 (OfLong long.Lor) (LongType ∷ LongType ∷ []) LongType (λ y x. Some (bitwise w64 bit_or y x)) _ refl refl (λ bytes pc operand. refl) (λ ns. refl) results.lor

pub ixor : Laws → Line 130
unfolding opcodes.row_of row_of
ixor laws = computes laws 130 (OfStack stack.Ixor) (IntType ∷ IntType ∷ []) IntType (λ y x. Some (bitwise w32 bit_xor y x)) _ refl refl (λ bytes pc operand. refl) (λ ns. refl) results.ixor

pub lxor : Laws → Line 131
unfolding opcodes.row_of row_of
lxor laws = computes laws 131 (OfLong long.Lxor) (LongType ∷ LongType ∷ []) LongType (λ y x. Some (bitwise w64 bit_xor y x)) _ refl refl (λ bytes pc operand. refl) (λ ns. refl) results.lxor

pub i2l : Laws → Line 133
unfolding opcodes.row_of row_of
i2l laws = computes laws 133 (OfLong long.I2l) (IntType ∷ []) LongType (λ x. Some (unchanged x)) _ refl refl (λ bytes pc operand. refl) (λ ns. refl) results.i2l

pub l2i : Laws → Line 136
unfolding opcodes.row_of row_of
l2i laws = computes laws 136 (OfLong long.L2i) (LongType ∷ []) IntType (λ x. Some (unchanged x)) _ refl refl (λ bytes pc operand. refl) (λ ns. refl) results.l2i

pub i2b : Laws → Line 145
unfolding opcodes.row_of row_of
i2b laws = computes laws 145 (OfStack stack.I2b) (IntType ∷ []) IntType (λ x. Some (narrowed w8 x)) _ refl refl (λ bytes pc operand. refl) (λ ns. refl) results.i2b

pub i2c : Laws → Line 146
unfolding opcodes.row_of row_of
i2c laws = computes laws 146 (OfStack stack.I2c) (IntType ∷ []) IntType (λ x. Some (as_char x)) _ refl refl (λ bytes pc operand. refl) (λ ns. refl) results.i2c

pub i2s : Laws → Line 147
unfolding opcodes.row_of row_of
i2s laws = computes laws 147 (OfStack stack.I2s) (IntType ∷ []) IntType (λ x. Some (narrowed w16 x)) _ refl refl (λ bytes pc operand. refl) (λ ns. refl) results.i2s

pub lcmp : Laws → Line 148
unfolding opcodes.row_of row_of
lcmp laws = computes laws 148 (OfLong long.Lcmp) (LongType ∷ LongType ∷ []) IntType (λ y x. Some (compared y x)) _ refl refl (λ bytes pc operand. refl) (λ ns. refl) results.lcmp
