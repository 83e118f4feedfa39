use Rattle.std.proofs.Common.{sym, ap, ◌∙◌}
use Rattle.std.proofs.lemmas.Result.{IfOk-weaker}
use Rattle.bytecode_model.specs.Rows as rows
use Rattle.bytecode_model.specs.Table.{by_static, by_field as row_by_field}
use Rattle.program_tables.specs.Meanings.{operand_seen}
use Rattle.verifier_types.specs.Frame.{frame_seen}
use Rattle.verifier_types.specs.Locals.{lists_seen}
use Rattle.bytecode_verifier.specs.Plain.{check_found}
use Rattle.bytecode_verifier.proofs.FindLemmas.{by_field}
use Rattle.bytecode_verifier.proofs.rows.check_field.Goals as goal

pub returns-in-Static : goal.returns-in-Static
returns-in-Static c = IfOk-weaker c.check_static_field.result _ _ (λ x p s place code i t h.
    let ls = lists_seen t in
    let f = frame_seen ls c.args.frame.now in
    p s h.program h.around ls
    ∙ (ap (λ o. check_found s f (by_static rows.GetStatic code i (operand_seen o))) (sym c.in-Static.is)
    ∙ by_field s f code i (operand_seen c.args.x.now.operand) c.args.family _ c.in-GetStatic.is)) c.check_static_field.ensures

pub returns-in-Static-operand : goal.returns-in-Static-operand
returns-in-Static-operand c = IfOk-weaker c.check_static_field-in-Static-operand.result _ _ (λ x p s place code i t h.
    let ls = lists_seen t in
    let f = frame_seen ls c.args.frame.now in
    p s h.program h.around ls
    ∙ (ap (λ o. check_found s f (by_static rows.PutStatic code i (operand_seen o))) (sym c.in-Static-operand.is)
    ∙ by_field s f code i (operand_seen c.args.x.now.operand) c.args.family _ c.in-PutStatic.is)) c.check_static_field-in-Static-operand.ensures

pub returns-in-Field : goal.returns-in-Field
returns-in-Field c = IfOk-weaker c.check_instance_field.result _ _ (λ x p s place code i t h.
    let ls = lists_seen t in
    let f = frame_seen ls c.args.frame.now in
    p s h.program h.around h.guarded ls
    ∙ (ap (λ o. check_found s f (row_by_field rows.GetField code i (operand_seen o))) (sym c.in-Field.is)
    ∙ by_field s f code i (operand_seen c.args.x.now.operand) c.args.family _ c.in-Get.is)) c.check_instance_field.ensures

pub returns-in-Field-operand : goal.returns-in-Field-operand
returns-in-Field-operand c = IfOk-weaker c.check_instance_field-in-Field-operand.result _ _ (λ x p s place code i t h.
    let ls = lists_seen t in
    let f = frame_seen ls c.args.frame.now in
    p s h.program h.around h.guarded ls
    ∙ (ap (λ o. check_found s f (row_by_field rows.PutField code i (operand_seen o))) (sym c.in-Field-operand.is)
    ∙ by_field s f code i (operand_seen c.args.x.now.operand) c.args.family _ c.in-Put.is)) c.check_instance_field-in-Field-operand.ensures
