use Rattle.std.proofs.Common.{sym, ◌∙◌, ap, inl, inr}
use Rattle.opcodes.specs.Entry.{entry_form, entry_operands}
use Rattle.opcodes.specs.Form.{NotAnOpcode, Fixed, Widened, TableSwitch, LookupSwitch, Wide}
use Rattle.opcodes.proofs.DecodeLemmas.{decoded-form}
use Rattle.opcodes.proofs.decoder.instruction_at.Goals as goal

pub returns-in-NotAnOpcode : goal.returns-in-NotAnOpcode
returns-in-NotAnOpcode c = decoded-form c.args.code.now c.args.pc NotAnOpcode (ap entry_form (sym c.in-NotAnOpcode.is) ∙ c.form_of.ensures)

pub returns-in-TableSwitch : goal.returns-in-TableSwitch
returns-in-TableSwitch c = c.table_switch.ensures ∙ decoded-form c.args.code.now c.args.pc TableSwitch (ap entry_form (sym c.in-TableSwitch.is) ∙ c.form_of.ensures)

pub returns-in-LookupSwitch : goal.returns-in-LookupSwitch
returns-in-LookupSwitch c = c.lookup_switch.ensures ∙ decoded-form c.args.code.now c.args.pc LookupSwitch (ap entry_form (sym c.in-LookupSwitch.is) ∙ c.form_of.ensures)

pub returns-in-Wide : goal.returns-in-Wide
returns-in-Wide c = c.widened.ensures ∙ decoded-form c.args.code.now c.args.pc Wide (ap entry_form (sym c.in-Wide.is) ∙ c.form_of.ensures)

pub returns-in-Fixed : goal.returns-in-Fixed
returns-in-Fixed c = elim c.in-Fixed.is [
  | inl e ↦ c.fixed.ensures ∙ decoded-form c.args.code.now c.args.pc (Fixed (entry_operands c.in-Fixed.operands)) (ap entry_form (sym e) ∙ c.form_of.ensures)
  | inr (w, e) ↦ c.fixed.ensures ∙ decoded-form c.args.code.now c.args.pc (Widened (entry_operands c.in-Fixed.operands) (entry_operands w)) (ap entry_form (sym e) ∙ c.form_of.ensures)
]
