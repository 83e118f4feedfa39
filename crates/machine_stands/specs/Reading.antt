-- The instruction that a machine is about to run, and the step as the effect of its row.
use Rattle.std.specs.Prelude.{◌≡◌, ℕ, ◌+◌, ◌≤◌, length, IsTrue, Ok, Some, None}
use Rattle.std.specs.declared.option.Option.{Option}
use Rattle.opcodes.specs.declared.instruction.Instr.{Instr}
use Rattle.opcodes.specs.Bytes.{u1}
use Rattle.opcodes.specs.Form.{Operands, Form, NotAnOpcode, Fixed, Widened, TableSwitch, LookupSwitch, Wide}
use Rattle.opcodes.specs.Instruction.{decoded, table_switch_at, lookup_switch_at}
use Rattle.opcodes.specs.Fault.{may_be_wide}
use Rattle.opcodes.specs.Row as opcodes
use Rattle.opcodes.specs.Reading.{plain_instr, wide_instr}
use Rattle.jop_core.specs.State as machine
use Rattle.bytecode_model.specs.declared.Ending.TheVariants.{Running}
use Rattle.bytecode_model.specs.State.{State}
use Rattle.bytecode_model.specs.Program.{Program, instr_at}
use Rattle.bytecode_model.specs.Rows.{Row}
use Rattle.bytecode_model.specs.Table.{row_of}
use Rattle.bytecode_model.specs.Effects.{effect}
use Rattle.bytecode_model.specs.Steps.{applied}
use Rattle.image_facts.specs.Places.{Places}
use Rattle.machine_stands.specs.StandsFor.{StandsFor, limits_of}
use Rattle.machine_stands.specs.Simulates.{IsStep}

-- The instruction stands at the place of the top frame, and has this row, whose effect gives the next state.
pub record IsAtRow (P : Program) (pl : Places) (n size : ℕ) (m : machine.MachineState) (answer : Option ℕ) (s s' : State) (st : StandsFor P pl n size m s)
    (instr : Instr) (row : Row) : Type 0 where
  pub at : instr_at P st.top.method st.top.pc ≡ Some instr
  pub whole : decoded st.body.code st.top.pc ≡ Ok instr
  pub within : st.top.pc + instr.length ≤ length st.body.code
  pub opcode : m.opcode ≡ u1 st.body.code st.top.pc
  pub is_row : row_of st.body.code instr (P.operand st.top.method st.top.pc) ≡ Some row
  pub step : applied P (limits_of P pl n size) answer s st.top st.callers (effect P (limits_of P pl n size) s st.top (st.top.pc + instr.length) row) ≡ Some s'

-- A step of a running state has a row.
pub record HasRow (P : Program) (pl : Places) (n size : ℕ) (m : machine.MachineState) (answer : Option ℕ) (s s' : State)
    (st : StandsFor P pl n size m s) : Type 0 where
  pub instr : Instr
  pub row : Row
  pub is : IsAtRow P pl n size m answer s s' st instr row

abbrev pub RowsAreRead : Type 0
RowsAreRead = (P : Program) (pl : Places) (n size : ℕ) (m : machine.MachineState) (answer : Option ℕ) (s s' : State) (h : IsStep P pl n size m answer s s')
    → s.mode ≡ Running
    → HasRow P pl n size m answer s s' h.stands

-- ---- where the opcode is known

-- that of a known instruction
abbrev pub Reads : (P : Program) (pl : Places) (n size : ℕ) (m : machine.MachineState) (answer : Option ℕ) (s s' : State) (st : StandsFor P pl n size m s)
    → Instr
    → Type 0
Reads P pl n size m answer s s' st instr = (row : Row) × IsAtRow P pl n size m answer s s' st instr row

-- the operands of fixed width that an opcode of this form has
abbrev pub operands_of : Form → Option Operands
operands_of (Fixed o) = Some o
operands_of (Widened o w) = Some o
operands_of NotAnOpcode = None
operands_of TableSwitch = None
operands_of LookupSwitch = None
operands_of Wide = None

abbrev pub PlainOnesAreRead : Type 0
PlainOnesAreRead = (P : Program) (pl : Places) (n size : ℕ) (m : machine.MachineState) (answer : Option ℕ) (s s' : State) (h : IsStep P pl n size m answer s s')
    (op : ℕ) (o : Operands) → s.mode ≡ Running
    → m.opcode ≡ op → operands_of (opcodes.row_of op).form ≡ Some o
    → Reads P pl n size m answer s s' h.stands (plain_instr op h.stands.body.code h.stands.top.pc o)

abbrev pub TableSwitchesAreRead : Type 0
TableSwitchesAreRead = (P : Program) (pl : Places) (n size : ℕ) (m : machine.MachineState) (answer : Option ℕ) (s s' : State)
    (h : IsStep P pl n size m answer s s')
    → s.mode ≡ Running
    → m.opcode ≡ 170 → Reads P pl n size m answer s s' h.stands (record (table_switch_at h.stands.body.code h.stands.top.pc) { op = 170 })

abbrev pub LookupSwitchesAreRead : Type 0
LookupSwitchesAreRead = (P : Program) (pl : Places) (n size : ℕ) (m : machine.MachineState) (answer : Option ℕ) (s s' : State)
    (h : IsStep P pl n size m answer s s')
    → s.mode ≡ Running
    → m.opcode ≡ 171 → Reads P pl n size m answer s s' h.stands (record (lookup_switch_at h.stands.body.code h.stands.top.pc) { op = 171 })

-- behind `wide` stands an opcode that may
abbrev pub WideOnesHaveOpcodes : Type 0
WideOnesHaveOpcodes = (P : Program) (pl : Places) (n size : ℕ) (m : machine.MachineState) (answer : Option ℕ) (s s' : State)
    (h : IsStep P pl n size m answer s s')
    → s.mode ≡ Running
    → m.opcode ≡ 196 → IsTrue (may_be_wide (u1 h.stands.body.code (h.stands.top.pc + 1)))

abbrev pub WideOnesAreRead : Type 0
WideOnesAreRead = (P : Program) (pl : Places) (n size : ℕ) (m : machine.MachineState) (answer : Option ℕ) (s s' : State) (h : IsStep P pl n size m answer s s')
    (op : ℕ) (plain widened : Operands) → s.mode ≡ Running
    → m.opcode ≡ 196 → u1 h.stands.body.code (h.stands.top.pc + 1) ≡ op → (opcodes.row_of op).form ≡ Widened plain widened
    → Reads P pl n size m answer s s' h.stands (wide_instr op h.stands.body.code h.stands.top.pc widened)
