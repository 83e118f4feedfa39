-- Words that are chosen by the operation in a step or two: groups of operations, whose words are chosen among.
use Rattle.std.specs.Prelude.{ℕ, ◌%◌, [], ◌∷◌}
use Rattle.base.specs.Signed.{sign_extended8, sign_extended16}
use Rattle.microcode.specs.declared.isa.operation.Operation.TheVariants.{Add, Sub, And, Or, Xor, Shl, Shr, Ushr, Mul, Slt, Sltu}
use Rattle.jop_core.specs.Operations.{combined}
use Rattle.circuit_cycles.specs.Core.{Core}
use Rattle.circuit_core.specs.Decoding.{picked}

-- ---- results of the binary operations on B and A

abbrev pub shifted : Core → ℕ
shifted c = picked (8 ∷ []) c.word (combined Shl c.b c.a) (picked (9 ∷ []) c.word (combined Shr c.b c.a) (combined Ushr c.b c.a))

abbrev pub compared : Core → ℕ
compared c = picked (12 ∷ []) c.word (combined Slt c.b c.a) (combined Sltu c.b c.a)

abbrev pub bitwise : Core → ℕ
bitwise c = picked (5 ∷ []) c.word (combined And c.b c.a) (picked (6 ∷ []) c.word (combined Or c.b c.a) (combined Xor c.b c.a))

abbrev pub calculated : Core → ℕ
calculated c = picked (3 ∷ []) c.word (combined Add c.b c.a) (picked (4 ∷ []) c.word (combined Sub c.b c.a) (combined Mul c.b c.a))

-- ---- words that are pushed

abbrev pub from_operand : Core → ℕ
from_operand c = picked (15 ∷ []) c.word (sign_extended8 c.operand) (picked (16 ∷ []) c.word (sign_extended16 c.operand) c.operand)

abbrev pub from_place : Core → ℕ
from_place c = picked (27 ∷ []) c.word c.vp (picked (29 ∷ []) c.word c.sp c.jpc)

abbrev pub from_outside : (input : ℕ) → Core → ℕ
from_outside input c = picked (2 ∷ []) c.word c.a (picked (40 ∷ []) c.word c.value input)

-- ---- on-chip places

-- how far behind VP the local is that an operation loads or stores
abbrev pub offset : (n operand word : ℕ) → ℕ
offset n operand word =
    picked (17 ∷ 18 ∷ []) word (operand % n) (picked (20 ∷ 24 ∷ []) word 1 (picked (21 ∷ 25 ∷ []) word 2 (picked (22 ∷ 26 ∷ []) word 3 0)))
