use Rattle.std.proofs.Common.{sym, ap, ◌∙◌}
use Rattle.std.proofs.lemmas.Result.{IfOk-weaker}
use Rattle.bytecode_model.specs.Rows as rows
use Rattle.bytecode_model.specs.Table.{by_type}
use Rattle.program_tables.specs.Meanings.{operand_seen}
use Rattle.verifier_types.specs.Locals.{lists_seen}
use Rattle.verifier_types.specs.Frame.{frame_seen}
use Rattle.bytecode_verifier.specs.Plain.{check_found}
use Rattle.bytecode_verifier.proofs.FindLemmas.{by_named}
use Rattle.bytecode_verifier.proofs.rows.check_named.Goals as goal

pub returns-in-Constant-clause-checks : goal.returns-in-Constant-clause-checks
returns-in-Constant-clause-checks c = IfOk-weaker c.check_constant.result _ _ (λ x p s code i e t.
    p s code i t (lists_seen c.args.lists.now) ∙ by_named s (frame_seen (lists_seen c.args.lists.now) c.args.frame.now) code i (operand_seen c.args.operand) c.args.family _ c.in-Constant.is) c.check_constant.ensures

pub returns-in-LongConstant-clause-checks : goal.returns-in-LongConstant-clause-checks
returns-in-LongConstant-clause-checks c = IfOk-weaker c.check_long.result _ _ (λ x p s code i e t.
    p s code i (lists_seen c.args.lists.now) ∙ by_named s (frame_seen (lists_seen c.args.lists.now) c.args.frame.now) code i (operand_seen c.args.operand) c.args.family _ c.in-LongConstant.is) c.check_long.ensures

pub returns-in-Some-clause-checks : goal.returns-in-Some-clause-checks
returns-in-Some-clause-checks c = IfOk-weaker c.check_new.result _ _ (λ x p s code i e t.
    p s c.in-Some.field-0 e
    ∙ (ap (check_found s (frame_seen (lists_seen c.args.lists.now) c.args.frame.now)) (c.in-Some.ensures code i)
    ∙ by_named s (frame_seen (lists_seen c.args.lists.now) c.args.frame.now) code i (operand_seen c.args.operand) c.args.family _ c.in-New.is)) c.check_new.ensures.checks

pub returns-in-None-clause-checks : goal.returns-in-None-clause-checks
returns-in-None-clause-checks c = λ s code i e t.
    ap (check_found s (frame_seen (lists_seen c.args.lists.now) c.args.frame.now)) (c.in-None.ensures code i)
    ∙ by_named s (frame_seen (lists_seen c.args.lists.now) c.args.frame.now) code i (operand_seen c.args.operand) c.args.family _ c.in-New.is

pub returns-in-Type-clause-checks : goal.returns-in-Type-clause-checks
returns-in-Type-clause-checks c = IfOk-weaker c.check_array_of.result _ _ (λ x p s code i e t.
    p s (lists_seen c.args.lists.now)
    ∙ (ap (λ o. check_found s (frame_seen (lists_seen c.args.lists.now) c.args.frame.now) (by_type rows.NewReferences code i (operand_seen o))) (sym c.in-Type.is)
    ∙ by_named s (frame_seen (lists_seen c.args.lists.now) c.args.frame.now) code i (operand_seen c.args.operand) c.args.family _ c.in-NewArray.is)) c.check_array_of.ensures

pub returns-in-Type-operand-clause-checks : goal.returns-in-Type-operand-clause-checks
returns-in-Type-operand-clause-checks c = IfOk-weaker c.check_cast.result _ _ (λ x p s code i e t.
    p s (lists_seen c.args.lists.now)
    ∙ (ap (λ o. check_found s (frame_seen (lists_seen c.args.lists.now) c.args.frame.now) (by_type rows.Cast code i (operand_seen o))) (sym c.in-Type-operand.is)
    ∙ by_named s (frame_seen (lists_seen c.args.lists.now) c.args.frame.now) code i (operand_seen c.args.operand) c.args.family _ c.in-Cast.is)) c.check_cast.ensures

pub returns-in-Type-operand-2-clause-checks : goal.returns-in-Type-operand-2-clause-checks
returns-in-Type-operand-2-clause-checks c = IfOk-weaker c.check_test.result _ _ (λ x p s code i e t.
    p s (lists_seen c.args.lists.now)
    ∙ (ap (λ o. check_found s (frame_seen (lists_seen c.args.lists.now) c.args.frame.now) (by_type rows.Test code i (operand_seen o))) (sym c.in-Type-operand-2.is)
    ∙ by_named s (frame_seen (lists_seen c.args.lists.now) c.args.frame.now) code i (operand_seen c.args.operand) c.args.family _ c.in-Test.is)) c.check_test.ensures
