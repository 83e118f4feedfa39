-- Which opcodes have a row.
use Rattle.std.specs.Prelude.{◌≡◌, ℕ, ◌<◌, Bool, true, false, List, map, Some, None}
use Rattle.opcodes.specs.declared.instruction.Instr.{Instr}
use Rattle.opcodes.specs.Row as opcodes
use Rattle.bytecode_model.specs.Program.{Operand}
use Rattle.bytecode_model.specs.Rows.{Row}
use Rattle.bytecode_model.specs.Table.{Meaning, instructions, row_of}

-- what jop_opcodes' table says of the opcode
abbrev pub is_supported : ℕ → Bool
is_supported op = (opcodes.row_of op).supported

-- some instruction with this opcode has a row
pub record HasRow (op : ℕ) : Type 0 where
  pub code : List ℕ
  pub instr : Instr
  pub operand : Operand
  pub is : instr.op ≡ op
  pub row : Row
  pub has : row_of code instr operand ≡ Some row

-- an opcode has a row where it is supported, and else none, whatever stands in the instruction
pub record IsSupportedOrNot (op : ℕ) : Type 0 where
  pub supported : is_supported op ≡ true → HasRow op
  pub unsupported : is_supported op ≡ false → (code : List ℕ) (instr : Instr) (operand : Operand) → instr.op ≡ op → row_of code instr operand ≡ None

abbrev pub opcode_of : Meaning → ℕ
opcode_of m = m.opcode

abbrev pub mnemonic_of : Meaning → List ℕ
mnemonic_of m = m.mnemonic

abbrev pub opcode_mnemonic : Meaning → List ℕ
opcode_mnemonic m = (opcodes.row_of m.opcode).mnemonic

-- the mnemonic beside each row is that of its opcode
abbrev pub NamesAreRight : Type 0
NamesAreRight = map mnemonic_of instructions ≡ map opcode_mnemonic instructions

pub record RowsAreOfTheirOpcodes : Type 0 where
  pub rows : (op : ℕ) → op < 256 → IsSupportedOrNot op
  pub names : NamesAreRight
