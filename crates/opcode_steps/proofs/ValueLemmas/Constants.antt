-- The lines of constants that no pool has.
use Rattle.std.proofs.Common.{◌+◌, ◌-◌, ◌^◌, pos, refl, ◌∙◌, ap, arith}
use Rattle.std.specs.Prelude.{negsuc}
use Rattle.base.specs.Signed.{sign_extended8, sign_extended16}
use Rattle.opcodes.specs.Bytes.{u1, u2, s1, s2}
use Rattle.opcodes.specs.Form.{one, Absent, SignedByte, SignedShort}
use Rattle.opcodes.specs.Row as opcodes
use Rattle.opcodes.specs.Reading.{plain_instr}
use Rattle.micro_sketch.specs.Operand.{byte_operand, two_byte_operand}
use Rattle.micro_sketch.specs.Opcodes.{OfNumber}
use Rattle.micro_sketch.specs.NumberOps.{Nop, AconstNull, IconstM1, Iconst0, Iconst1, Iconst2, Iconst3, Iconst4, Iconst5, Lconst0, Lconst1, Bipush, Sipush}
use Rattle.bytecode_model.specs.declared.Value.TheVariants.{Int, Null}
use Rattle.bytecode_model.specs.Rows as rows
use Rattle.bytecode_model.specs.Table.{row_of}
use Rattle.opcode_steps.proofs.ValueLemmas.Ints.{extended8, extended16}
use Rattle.opcode_steps.proofs.ValueLemmas.Scenes.{Laws, Line, anywhere, line_of}
use Rattle.opcode_steps.proofs.ValueLemmas.Pushing.{does_nothing}
use Rattle.opcode_steps.proofs.ValueLemmas.Shapes.{plainly, two_bytes, two_small, constant, long_constant, immediate}

pub nop : Laws → Line 0
unfolding opcodes.row_of row_of
nop laws =
    line_of laws 0 anywhere (λ code pc. plain_instr 0 code pc (one Absent)) (λ code pc. rows.Nothing) (OfNumber Nop) 0 (plainly laws 0 (one Absent) 0 refl refl) refl (λ code pc o. refl) (λ x. refl)
    (does_nothing laws (λ code pc. plain_instr 0 code pc (one Absent)) (OfNumber Nop) anywhere (λ x. tt) (λ x. refl))

pub aconst_null : Laws → Line 1
unfolding opcodes.row_of row_of
aconst_null laws = constant laws 1 AconstNull Null 0 refl refl (λ code pc o. refl) (λ x. refl) refl (λ place. refl)

pub iconst_m1 : Laws → Line 2
unfolding opcodes.row_of row_of
iconst_m1 laws = constant laws 2 IconstM1 (Int (negsuc 0)) (2 ^ 32 - 1) refl refl (λ code pc o. refl) (λ x. refl) refl (λ place. refl)

pub iconst_0 : Laws → Line 3
unfolding opcodes.row_of row_of
iconst_0 laws = constant laws 3 Iconst0 (Int (pos 0)) 0 refl refl (λ code pc o. refl) (λ x. refl) refl (λ place. refl)

pub iconst_1 : Laws → Line 4
unfolding opcodes.row_of row_of
iconst_1 laws = constant laws 4 Iconst1 (Int (pos 1)) 1 refl refl (λ code pc o. refl) (λ x. refl) refl (λ place. refl)

pub iconst_2 : Laws → Line 5
unfolding opcodes.row_of row_of
iconst_2 laws = constant laws 5 Iconst2 (Int (pos 2)) 2 refl refl (λ code pc o. refl) (λ x. refl) refl (λ place. refl)

pub iconst_3 : Laws → Line 6
unfolding opcodes.row_of row_of
iconst_3 laws = constant laws 6 Iconst3 (Int (pos 3)) 3 refl refl (λ code pc o. refl) (λ x. refl) refl (λ place. refl)

pub iconst_4 : Laws → Line 7
unfolding opcodes.row_of row_of
iconst_4 laws = constant laws 7 Iconst4 (Int (pos 4)) 4 refl refl (λ code pc o. refl) (λ x. refl) refl (λ place. refl)

pub iconst_5 : Laws → Line 8
unfolding opcodes.row_of row_of
iconst_5 laws = constant laws 8 Iconst5 (Int (pos 5)) 5 refl refl (λ code pc o. refl) (λ x. refl) refl (λ place. refl)

pub lconst_0 : Laws → Line 9
unfolding opcodes.row_of row_of
lconst_0 laws = long_constant laws 9 Lconst0 (pos 0) 0 0 refl refl (λ code pc o. refl) (λ x. refl) refl refl

pub lconst_1 : Laws → Line 10
unfolding opcodes.row_of row_of
lconst_1 laws = long_constant laws 10 Lconst1 (pos 1) 1 0 refl refl (λ code pc o. refl) (λ x. refl) refl refl

pub bipush : Laws → Line 16
unfolding opcodes.row_of row_of
bipush laws =
    immediate laws 16 (one SignedByte) 1 Bipush (λ code pc. Int (s1 code (pc + 1))) (λ x. sign_extended8 (byte_operand x)) refl refl refl (λ code pc o. refl) (λ x. refl) (λ code pc. refl)
    (λ code pc x place h. ap sign_extended8 (h.byte 0 (omega arith)) ∙ extended8 (u1 code (pc + 1)) (h.small (pc + 1)))

pub sipush : Laws → Line 17
unfolding opcodes.row_of row_of
sipush laws =
    immediate laws 17 (one SignedShort) 2 Sipush (λ code pc. Int (s2 code (pc + 1))) (λ x. sign_extended16 (two_byte_operand x)) refl refl refl (λ code pc o. refl) (λ x. refl) (λ code pc. refl)
    (λ code pc x place h. ap sign_extended16 (two_bytes code pc 2 x (omega arith) h) ∙ extended16 (u2 code (pc + 1)) (two_small code pc 2 x (pc + 1) h))
