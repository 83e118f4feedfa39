-- An instruction where its opcode is known, so that what is asked of it computes: JVM Specification SE 8, 6.5.
use Rattle.std.specs.Prelude.{◌≡◌, ℕ, ◌+◌, ◌<◌, true, false, List, Ok, IsTrue}
use Rattle.opcodes.specs.declared.instruction.Instr.{Instr}
use Rattle.opcodes.specs.Bytes.{u1}
use Rattle.opcodes.specs.Form.{Operands, Form, NotAnOpcode, Fixed, Widened, TableSwitch, LookupSwitch, Wide}
use Rattle.opcodes.specs.Instruction.{decoded, value_at, width, operands_width, table_switch_at, lookup_switch_at}
use Rattle.opcodes.specs.Fault.{may_be_wide}
use Rattle.opcodes.specs.Row.{row_of}

-- the instruction of an opcode at pc with operands of fixed width, and of one behind `wide`
abbrev pub plain_instr : (op : ℕ) → List ℕ → (pc : ℕ) → Operands → Instr
plain_instr op code pc o = record {
  op = op;
  wide = false;
  length = 1 + operands_width o;
  first = value_at code (pc + 1) o.first;
  second = value_at code (pc + 1 + width o.first) o.second;
  count = 0;
  table = 0;
}

abbrev pub wide_instr : (op : ℕ) → List ℕ → (pc : ℕ) → Operands → Instr
wide_instr op code pc o = record {
  op = op;
  wide = true;
  length = 2 + operands_width o;
  first = value_at code (pc + 2) o.first;
  second = value_at code (pc + 2 + width o.first) o.second;
  count = 0;
  table = 0;
}

-- what an instruction at pc is whose opcode has operands of this form
abbrev pub IsOfForm : Form → (op : ℕ) → List ℕ → (pc : ℕ) → Instr → Type 0
IsOfForm NotAnOpcode op code pc instr = ⊥
IsOfForm (Fixed o) op code pc instr = instr ≡ plain_instr op code pc o
IsOfForm (Widened o w) op code pc instr = instr ≡ plain_instr op code pc o
IsOfForm TableSwitch op code pc instr = instr ≡ record (table_switch_at code pc) { op = op }
IsOfForm LookupSwitch op code pc instr = instr ≡ record (lookup_switch_at code pc) { op = op }
-- the opcode behind `wide` says: see the next law
IsOfForm Wide op code pc instr = Unit {0}

-- ---- laws

abbrev pub InstructionsAreOfTheirForm : Type 0
InstructionsAreOfTheirForm = (code : List ℕ) (pc op : ℕ) (form : Form) (instr : Instr) → decoded code pc ≡ Ok instr → u1 code pc ≡ op → (row_of op).form ≡ form
    → IsOfForm form op code pc instr

-- Behind `wide` (196) stands an opcode that may stand there, and its operands are the wider ones of its form.
abbrev pub WideOnesMayBeWide : Type 0
WideOnesMayBeWide = (code : List ℕ) (pc : ℕ) (instr : Instr) → decoded code pc ≡ Ok instr → u1 code pc ≡ 196 → u1 code (pc + 1) < 256
    → IsTrue (may_be_wide (u1 code (pc + 1)))

abbrev pub WideOnesAreOfTheirForm : Type 0
WideOnesAreOfTheirForm = (code : List ℕ) (pc op : ℕ) (plain widened : Operands) (instr : Instr) → decoded code pc ≡ Ok instr → u1 code pc ≡ 196
    → u1 code (pc + 1) ≡ op
    → (row_of op).form ≡ Widened plain widened → instr ≡ wide_instr op code pc widened
