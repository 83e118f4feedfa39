-- The row of the instruction that a machine is about to run.
use Rattle.std.proofs.Common.{◌≡◌, ℕ, ◌+◌, List, Result, Ok, Err, Option, Some, refl, sym, ◌∙◌, ap, subst}
use Rattle.std.specs.Prelude.{IfSome}
use Rattle.std.proofs.lemmas.Option.{none-some}
use Rattle.lists.proofs.Lemmas.{onto_some, some_same}
use Rattle.opcodes.specs.declared.instruction.Instr.{Instr}
use Rattle.opcodes.specs.declared.instruction.DecodeFault.{DecodeFault}
use Rattle.opcodes.specs.Bytes.{u1}
use Rattle.opcodes.specs.Form.{Operands, Form, NotAnOpcode, Fixed, Widened, TableSwitch, LookupSwitch, Wide}
use Rattle.opcodes.specs.Instruction.{decoded, table_switch_at, lookup_switch_at}
use Rattle.opcodes.specs.Row as opcodes
use Rattle.opcodes.specs.Target.{WholeIsWithin}
use Rattle.opcodes.specs.Reading.{plain_instr, wide_instr, IsOfForm, InstructionsAreOfTheirForm, WideOnesMayBeWide, WideOnesAreOfTheirForm}
use Rattle.jop_core.specs.State as machine
use Rattle.bytecode_model.specs.declared.Ending.{Ending}
use Rattle.bytecode_model.specs.declared.Ending.TheVariants.{Running}
use Rattle.bytecode_model.specs.Lists.{onto}
use Rattle.bytecode_model.specs.State.{Frame, State}
use Rattle.bytecode_model.specs.Program.{Program, Body, as_instr, body_of, instr_at}
use Rattle.bytecode_model.specs.Rows.{Row}
use Rattle.bytecode_model.specs.Table.{row_of}
use Rattle.bytecode_model.specs.Effects.{effect}
use Rattle.bytecode_model.specs.Steps.{applied, step_in, row_at}
use Rattle.image_facts.specs.Places.{Places}
use Rattle.image_facts.specs.Says.{IsCode}
use Rattle.machine_stands.specs.StandsFor.{limits_of}
use Rattle.machine_stands.specs.Simulates.{IsStep}
use Rattle.machine_stands.specs.Reading.{IsAtRow, HasRow, RowsAreRead, Reads, operands_of, PlainOnesAreRead, TableSwitchesAreRead, LookupSwitchesAreRead, WideOnesHaveOpcodes, WideOnesAreRead}
use Rattle.machine_stands.proofs.Seeing.{at_instruction}

pub record ReadingLaws : Type 0 where
  pub within : (code : List ℕ) (pc : ℕ) → WholeIsWithin code pc
  pub forms : InstructionsAreOfTheirForm
  pub wide_opcodes : WideOnesMayBeWide
  pub wide_forms : WideOnesAreOfTheirForm

ok_is : (r : Result Instr DecodeFault) (i : Instr) → as_instr r ≡ Some i → r ≡ Ok i
ok_is (Ok j) i h = ap (λ (k : Instr). Ok k) (some_same j i h)
ok_is (Err e) i h = absurd (none-some i h)

-- the row of a frame's instruction
record RowOf (P : Program) (f : Frame) (b : Body) (next : ℕ) (row : Row) : Type 0 where
  instr : Instr
  at : instr_at P f.method f.pc ≡ Some instr
  whole : decoded b.code f.pc ≡ Ok instr
  is : row_of b.code instr (P.operand f.method f.pc) ≡ Some row
  behind : f.pc + instr.length ≡ next

row_is : (P : Program) (f : Frame) (b : Body) (x : ℕ × Row) → body_of P f.method ≡ Some b → row_at P f ≡ Some x → RowOf P f b x.0 x.1
row_is P f b x body h =
    let u = onto_some (body_of P f.method) (λ b. onto (instr_at P f.method f.pc) (λ i. onto (row_of b.code i (P.operand f.method f.pc)) (λ r. Some (f.pc + i.length, r)))) x h in
    let same : u.0 ≡ b = some_same u.0 b (sym u.1 ∙ body) in
    let i = onto_some (instr_at P f.method f.pc) (λ i. onto (row_of u.0.code i (P.operand f.method f.pc)) (λ r. Some (f.pc + i.length, r))) x u.2 in
    let r = onto_some (row_of u.0.code i.0 (P.operand f.method f.pc)) (λ r. Some (f.pc + i.0.length, r)) x i.2 in
    let pair : (f.pc + i.0.length, r.0) ≡ x = some_same (f.pc + i.0.length, r.0) x r.2 in
    let d = onto_some (body_of P f.method) (λ b. as_instr (decoded b.code f.pc)) i.0 i.1 in
    let other : d.0 ≡ b = some_same d.0 b (sym d.1 ∙ body) in
    record {
      instr = i.0;
      at = i.1;
      whole = ap (λ (c : Body). decoded c.code f.pc) (sym other) ∙ ok_is (decoded d.0.code f.pc) i.0 d.2;
      is = ap (λ (c : Body). row_of c.code i.0 (P.operand f.method f.pc)) (sym same) ∙ r.1 ∙ ap (λ (y : ℕ × Row). Some y.1) pair;
      behind = ap (λ (y : ℕ × Row). y.0) pair;
    }

pub row_read : ReadingLaws → RowsAreRead
row_read laws P pl n size m answer s s' h mode =
    let st = h.stands in
    let limits = limits_of P pl n size in
    let here = at_instruction P pl m s st.top st.body s.mode mode st.at in
    let run : onto (row_at P st.top) (λ x. applied P limits answer s st.top st.callers (effect P limits s st.top x.0 x.1)) ≡ Some s' =
    sym (ap (λ (md : Ending). step_in P limits answer s s.frames md) mode ∙ ap (λ (fs : List Frame). step_in P limits answer s fs Running) st.frames) ∙ h.step in
    let x = onto_some (row_at P st.top) (λ x. applied P limits answer s st.top st.callers (effect P limits s st.top x.0 x.1)) s' run in
    let r = row_is P st.top st.body x.0 st.is_body x.1 in
    record {
      instr = r.instr;
      row = x.0.1;
      is = record {
        at = r.at;
        whole = r.whole;
        within = (laws.within st.body.code st.top.pc r.instr r.whole).ends;
        opcode = here.opcode;
        is_row = r.is;
        step = ap (λ (next : ℕ). applied P limits answer s st.top st.callers (effect P limits s st.top next x.0.1)) r.behind ∙ x.2;
      };
    }

-- ---- where the opcode is known

module _ (laws : ReadingLaws) (P : Program) (pl : Places) (n size : ℕ) (m : machine.MachineState) (answer : Option ℕ) (s s' : State) (h : IsStep P pl n size m answer s s') (mode : s.mode ≡ Running) where
  known : (r : HasRow P pl n size m answer s s' h.stands) (i : Instr) → r.instr ≡ i → Reads P pl n size m answer s s' h.stands i
  known r i is = (r.row, subst (λ (j : Instr). IsAtRow P pl n size m answer s s' h.stands j r.row) is r.is)

  plain_by : (form : Form) (op : ℕ) (o : Operands) (i : Instr) → operands_of form ≡ Some o → IsOfForm form op h.stands.body.code h.stands.top.pc i → i ≡ plain_instr op h.stands.body.code h.stands.top.pc o
  plain_by (Fixed u) op o i has is = is ∙ ap (plain_instr op h.stands.body.code h.stands.top.pc) (some_same u o has)
  plain_by (Widened u w) op o i has is = is ∙ ap (plain_instr op h.stands.body.code h.stands.top.pc) (some_same u o has)
  plain_by NotAnOpcode op o i has is = absurd is
  plain_by TableSwitch op o i has is = absurd (none-some o has)
  plain_by LookupSwitch op o i has is = absurd (none-some o has)
  plain_by Wide op o i has is = absurd (none-some o has)

  plain_read : (op : ℕ) (o : Operands) → m.opcode ≡ op → operands_of (opcodes.row_of op).form ≡ Some o → Reads P pl n size m answer s s' h.stands (plain_instr op h.stands.body.code h.stands.top.pc o)
  plain_read op o is has =
      let r = row_read laws P pl n size m answer s s' h mode in
      known r (plain_instr op h.stands.body.code h.stands.top.pc o)
      (plain_by (opcodes.row_of op).form op o r.instr has (laws.forms h.stands.body.code h.stands.top.pc op (opcodes.row_of op).form r.instr r.is.whole (sym r.is.opcode ∙ is) refl))

  wide_known : m.opcode ≡ 196 → u1 h.stands.body.code h.stands.top.pc ≡ 196
  wide_known is = sym (row_read laws P pl n size m answer s s' h mode).is.opcode ∙ is

  wide_read : (op : ℕ) (plain widened : Operands) → m.opcode ≡ 196 → u1 h.stands.body.code (h.stands.top.pc + 1) ≡ op → (opcodes.row_of op).form ≡ Widened plain widened
      → Reads P pl n size m answer s s' h.stands (wide_instr op h.stands.body.code h.stands.top.pc widened)
  wide_read op plain widened is under form =
      let r = row_read laws P pl n size m answer s s' h mode in
      known r (wide_instr op h.stands.body.code h.stands.top.pc widened) (laws.wide_forms h.stands.body.code h.stands.top.pc op plain widened r.instr r.is.whole (wide_known is) under form)

table_form : (opcodes.row_of 170).form ≡ TableSwitch
unfolding opcodes.row_of
table_form = refl

lookup_form : (opcodes.row_of 171).form ≡ LookupSwitch
unfolding opcodes.row_of
lookup_form = refl

pub plain_is_read : ReadingLaws → PlainOnesAreRead
plain_is_read laws P pl n size m answer s s' h op o mode is has = plain_read laws P pl n size m answer s s' h mode op o is has

pub table_is_read : ReadingLaws → TableSwitchesAreRead
table_is_read laws P pl n size m answer s s' h mode is =
    let r = row_read laws P pl n size m answer s s' h mode in
    known laws P pl n size m answer s s' h mode r (record (table_switch_at h.stands.body.code h.stands.top.pc) { op = 170 })
    (laws.forms h.stands.body.code h.stands.top.pc 170 TableSwitch r.instr r.is.whole (sym r.is.opcode ∙ is) table_form)

pub lookup_is_read : ReadingLaws → LookupSwitchesAreRead
lookup_is_read laws P pl n size m answer s s' h mode is =
    let r = row_read laws P pl n size m answer s s' h mode in
    known laws P pl n size m answer s s' h mode r (record (lookup_switch_at h.stands.body.code h.stands.top.pc) { op = 171 })
    (laws.forms h.stands.body.code h.stands.top.pc 171 LookupSwitch r.instr r.is.whole (sym r.is.opcode ∙ is) lookup_form)

pub wide_has_opcode : ReadingLaws → WideOnesHaveOpcodes
wide_has_opcode laws P pl n size m answer s s' h mode is =
    let r = row_read laws P pl n size m answer s s' h mode in
    let bytes = subst (λ o. IfSome o (λ (b : Body). IsCode b.code)) h.stands.is_body (h.says.codes h.stands.top.method) in
    laws.wide_opcodes h.stands.body.code h.stands.top.pc r.instr r.is.whole (wide_known laws P pl n size m answer s s' h mode is) (bytes.bytes (h.stands.top.pc + 1))

pub wide_is_read : ReadingLaws → WideOnesAreRead
wide_is_read laws P pl n size m answer s s' h op plain widened mode is under form = wide_read laws P pl n size m answer s s' h mode op plain widened is under form
