use Rattle.std.proofs.Common.{sym, ap, ◌∙◌}
use Rattle.std.proofs.lemmas.Result.{IfOk-weaker}
use Rattle.program_tables.specs.Meanings.{operand_seen}
use Rattle.verifier_types.specs.Frame.{frame_seen}
use Rattle.verifier_types.specs.Locals.{lists_seen}
use Rattle.bytecode_verifier.specs.Family.{call_row}
use Rattle.bytecode_verifier.specs.Plain.{check_found}
use Rattle.bytecode_verifier.proofs.rows.check_call.Goals as goal

pub returns-in-Method-clause-checks : goal.returns-in-Method-clause-checks
returns-in-Method-clause-checks c = IfOk-weaker c.check_callee.result _ _ (λ x p s place code i h.
    p s code i h.program h.around h.guarded
    ∙ ap (λ o. check_found s (frame_seen (lists_seen c.args.lists.now) c.args.frame.now) (call_row c.args.family code i (operand_seen o))) (sym c.in-Method.is)) c.check_callee.ensures.checks
