-- The conditional branches on ints, one by one.
use Rattle.std.proofs.Common.{[], ◌∷◌, refl}
use Rattle.std.specs.Prelude.{pos}
use Rattle.opcodes.specs.Row as opcodes
use Rattle.micro_sketch.specs.Opcodes.{OfBranch}
use Rattle.micro_sketch.specs.BranchOps as branches
use Rattle.bytecode_model.specs.Types.{IntType}
use Rattle.bytecode_model.specs.Numbers.{is_equal, is_unequal, is_less, is_at_least, is_greater, is_at_most}
use Rattle.bytecode_model.specs.Table.{row_of}
use Rattle.opcode_steps.proofs.NumberLemmas.Tests as tests
use Rattle.opcode_steps.proofs.NumberLemmas.Scenes.{Laws, Line}
use Rattle.opcode_steps.proofs.NumberLemmas.Branching.{branch_line, tests_one, tests_two}

pub ifeq : Laws → Line 153
unfolding opcodes.row_of row_of
ifeq laws =
    branch_line laws 153 (OfBranch branches.Ifeq) (IntType ∷ []) (λ x. is_equal (pos 0) x) refl refl (λ bytes pc operand. refl)
    (tests_one (OfBranch branches.Ifeq) 153 is_equal (λ x. record { ready = tt; calm = refl; effect = refl }) tests.ifeq)

pub ifne : Laws → Line 154
unfolding opcodes.row_of row_of
ifne laws =
    branch_line laws 154 (OfBranch branches.Ifne) (IntType ∷ []) (λ x. is_unequal (pos 0) x) refl refl (λ bytes pc operand. refl)
    (tests_one (OfBranch branches.Ifne) 154 is_unequal (λ x. record { ready = tt; calm = refl; effect = refl }) tests.ifne)

pub iflt : Laws → Line 155
unfolding opcodes.row_of row_of
iflt laws =
    branch_line laws 155 (OfBranch branches.Iflt) (IntType ∷ []) (λ x. is_less (pos 0) x) refl refl (λ bytes pc operand. refl)
    (tests_one (OfBranch branches.Iflt) 155 is_less (λ x. record { ready = tt; calm = refl; effect = refl }) tests.iflt)

pub ifge : Laws → Line 156
unfolding opcodes.row_of row_of
ifge laws =
    branch_line laws 156 (OfBranch branches.Ifge) (IntType ∷ []) (λ x. is_at_least (pos 0) x) refl refl (λ bytes pc operand. refl)
    (tests_one (OfBranch branches.Ifge) 156 is_at_least (λ x. record { ready = tt; calm = refl; effect = refl }) tests.ifge)

pub ifgt : Laws → Line 157
unfolding opcodes.row_of row_of
ifgt laws =
    branch_line laws 157 (OfBranch branches.Ifgt) (IntType ∷ []) (λ x. is_greater (pos 0) x) refl refl (λ bytes pc operand. refl)
    (tests_one (OfBranch branches.Ifgt) 157 is_greater (λ x. record { ready = tt; calm = refl; effect = refl }) tests.ifgt)

pub ifle : Laws → Line 158
unfolding opcodes.row_of row_of
ifle laws =
    branch_line laws 158 (OfBranch branches.Ifle) (IntType ∷ []) (λ x. is_at_most (pos 0) x) refl refl (λ bytes pc operand. refl)
    (tests_one (OfBranch branches.Ifle) 158 is_at_most (λ x. record { ready = tt; calm = refl; effect = refl }) tests.ifle)

pub if_icmpeq : Laws → Line 159
unfolding opcodes.row_of row_of
if_icmpeq laws =
    branch_line laws 159 (OfBranch branches.IfIcmpeq) (IntType ∷ IntType ∷ []) (λ y x. is_equal y x) refl refl (λ bytes pc operand. refl)
    (tests_two (OfBranch branches.IfIcmpeq) 159 is_equal (λ x. record { ready = tt; calm = refl; effect = refl }) tests.if_icmpeq)

pub if_icmpne : Laws → Line 160
unfolding opcodes.row_of row_of
if_icmpne laws =
    branch_line laws 160 (OfBranch branches.IfIcmpne) (IntType ∷ IntType ∷ []) (λ y x. is_unequal y x) refl refl (λ bytes pc operand. refl)
    (tests_two (OfBranch branches.IfIcmpne) 160 is_unequal (λ x. record { ready = tt; calm = refl; effect = refl }) tests.if_icmpne)

pub if_icmplt : Laws → Line 161
unfolding opcodes.row_of row_of
if_icmplt laws =
    branch_line laws 161 (OfBranch branches.IfIcmplt) (IntType ∷ IntType ∷ []) (λ y x. is_less y x) refl refl (λ bytes pc operand. refl)
    (tests_two (OfBranch branches.IfIcmplt) 161 is_less (λ x. record { ready = tt; calm = refl; effect = refl }) tests.if_icmplt)

pub if_icmpge : Laws → Line 162
unfolding opcodes.row_of row_of
if_icmpge laws =
    branch_line laws 162 (OfBranch branches.IfIcmpge) (IntType ∷ IntType ∷ []) (λ y x. is_at_least y x) refl refl (λ bytes pc operand. refl)
    (tests_two (OfBranch branches.IfIcmpge) 162 is_at_least (λ x. record { ready = tt; calm = refl; effect = refl }) tests.if_icmpge)

pub if_icmpgt : Laws → Line 163
unfolding opcodes.row_of row_of
if_icmpgt laws =
    branch_line laws 163 (OfBranch branches.IfIcmpgt) (IntType ∷ IntType ∷ []) (λ y x. is_greater y x) refl refl (λ bytes pc operand. refl)
    (tests_two (OfBranch branches.IfIcmpgt) 163 is_greater (λ x. record { ready = tt; calm = refl; effect = refl }) tests.if_icmpgt)

pub if_icmple : Laws → Line 164
unfolding opcodes.row_of row_of
if_icmple laws =
    branch_line laws 164 (OfBranch branches.IfIcmple) (IntType ∷ IntType ∷ []) (λ y x. is_at_most y x) refl refl (λ bytes pc operand. refl)
    (tests_two (OfBranch branches.IfIcmple) 164 is_at_most (λ x. record { ready = tt; calm = refl; effect = refl }) tests.if_icmple)
