use Rattle.std.proofs.Common.{sym, ◌∙◌, ap, arith}
use Rattle.opcodes.specs.Entry.{entry_form, entry_operands}
use Rattle.opcodes.specs.Form.{Widened}
use Rattle.opcodes.proofs.DecodeLemmas.{wide-inside, not_widened}
use Rattle.opcodes.proofs.decoder.widened.Goals as goal

pub returns-in-Widened : goal.returns-in-Widened
returns-in-Widened c =
    c.fixed.ensures
    ∙ wide-inside c.args.code.now c.args.pc (Widened (entry_operands c.in-Widened.field-0) (entry_operands c.in-Widened.operands)) (omega arith) (ap entry_form (sym c.in-Widened.is) ∙ c.form_of.ensures)

pub returns-in_default : goal.returns-in_default
returns-in_default c =
    not_widened c.args.code.now c.args.pc c.form_of.result c.in_default.not-Widened
    ∙ wide-inside c.args.code.now c.args.pc (entry_form c.form_of.result) (omega arith) c.form_of.ensures
