-- Opcodes that jump (JVM Specification SE 8, chapter 6).
use Rattle.std.specs.Prelude.{ℕ, ◌∷◌, if◌then◌else◌}
use Rattle.jop_core.specs.Operations.{holds}
use Rattle.micro_sketch.specs.Sketch.{Sketch}
use Rattle.micro_sketch.specs.Row.{Effect, unchanged}
use Rattle.micro_sketch.specs.Operand.{past, jump_place, wide_jump_place}

pub data BranchOp : Type 0 where
  Ifeq : BranchOp
  Ifne : BranchOp
  Iflt : BranchOp
  Ifge : BranchOp
  Ifgt : BranchOp
  Ifle : BranchOp
  IfIcmpeq : BranchOp
  IfIcmpne : BranchOp
  IfIcmplt : BranchOp
  IfIcmpge : BranchOp
  IfIcmpgt : BranchOp
  IfIcmple : BranchOp
  IfAcmpeq : BranchOp
  IfAcmpne : BranchOp
  Goto : BranchOp
  Ifnull : BranchOp
  Ifnonnull : BranchOp
  GotoW : BranchOp

abbrev pub branch_code : BranchOp → ℕ
branch_code Ifeq = 153
branch_code Ifne = 154
branch_code Iflt = 155
branch_code Ifge = 156
branch_code Ifgt = 157
branch_code Ifle = 158
branch_code IfIcmpeq = 159
branch_code IfIcmpne = 160
branch_code IfIcmplt = 161
branch_code IfIcmpge = 162
branch_code IfIcmpgt = 163
branch_code IfIcmple = 164
branch_code IfAcmpeq = 165
branch_code IfAcmpne = 166
branch_code Goto = 167
branch_code Ifnull = 198
branch_code Ifnonnull = 199
branch_code GotoW = 200

-- to the target where the opcode's condition holds, else on
abbrev pub lands : (op : ℕ) → Sketch → ℕ
lands op x = if holds op x.next x.top then jump_place x else (past 2 x).jpc

-- a branch on the word on top, and one on the two words there
abbrev pub tests_one : (op : ℕ) → Sketch → Effect
tests_one op x = record (unchanged x) { words = x.next ∷ x.under; jpc = lands op x }

abbrev pub tests_two : (op : ℕ) → Sketch → Effect
tests_two op x = record (unchanged x) { words = x.under; jpc = lands op x }

abbrev pub branch_effect : BranchOp → Sketch → Effect
branch_effect Ifeq x = tests_one 153 x
branch_effect Ifne x = tests_one 154 x
branch_effect Iflt x = tests_one 155 x
branch_effect Ifge x = tests_one 156 x
branch_effect Ifgt x = tests_one 157 x
branch_effect Ifle x = tests_one 158 x
branch_effect IfIcmpeq x = tests_two 159 x
branch_effect IfIcmpne x = tests_two 160 x
branch_effect IfIcmplt x = tests_two 161 x
branch_effect IfIcmpge x = tests_two 162 x
branch_effect IfIcmpgt x = tests_two 163 x
branch_effect IfIcmple x = tests_two 164 x
branch_effect IfAcmpeq x = tests_two 165 x
branch_effect IfAcmpne x = tests_two 166 x
branch_effect Goto x = record (unchanged x) { jpc = jump_place x }
branch_effect Ifnull x = tests_one 198 x
branch_effect Ifnonnull x = tests_one 199 x
branch_effect GotoW x = record (unchanged x) { jpc = wide_jump_place x }
