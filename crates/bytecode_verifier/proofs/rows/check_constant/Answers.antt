use Rattle.std.proofs.Common.{refl, sym, ap, ◌∙◌, subst}
use Rattle.std.specs.Prelude.{pos}
use Rattle.std.proofs.lemmas.Result.{IfOk-weaker}
use Rattle.bytecode_model.specs.declared.Value.TheVariants as values
use Rattle.bytecode_model.specs.Table.{constant}
use Rattle.program_tables.specs.Meanings.{operand_seen}
use Rattle.verifier_types.specs.Frame.{frame_seen}
use Rattle.bytecode_verifier.specs.Checking.{IsTyped}
use Rattle.bytecode_verifier.specs.Plain.{check_found}
use Rattle.bytecode_verifier.proofs.rows.check_constant.Goals as goal

pub returns-in-Int : goal.returns-in-Int
returns-in-Int c = IfOk-weaker c.check_push.result _ _ (λ x p s code i t ls.
    p s (values.Int (pos 0)) refl ls ∙ ap (λ o. check_found s (frame_seen ls c.args.frame.now) (constant code i (operand_seen o))) (sym c.in-Int.is)) c.check_push.ensures.constant

pub returns-in-Text : goal.returns-in-Text
returns-in-Text c = IfOk-weaker c.check_push-in-Text.result _ _ (λ x p s code i t ls.
    p s (values.Ref c.in-Text.field-0) (subst (λ o. IsTyped s.program (operand_seen o)) c.in-Text.is t) ls
    ∙ ap (λ o. check_found s (frame_seen ls c.args.frame.now) (constant code i (operand_seen o))) (sym c.in-Text.is)) c.check_push-in-Text.ensures.constant
