use Rattle.std.proofs.Common.{refl, sym, ap, ◌∙◌}
use Rattle.std.specs.Prelude.{pos}
use Rattle.std.proofs.lemmas.Result.{IfOk-weaker}
use Rattle.bytecode_model.specs.declared.Value.TheVariants as values
use Rattle.bytecode_model.specs.Table.{long_constant}
use Rattle.program_tables.specs.Meanings.{operand_seen}
use Rattle.verifier_types.specs.Frame.{frame_seen}
use Rattle.bytecode_verifier.specs.Plain.{check_found}
use Rattle.bytecode_verifier.proofs.rows.check_long.Goals as goal

pub returns-in-Long : goal.returns-in-Long
returns-in-Long c = IfOk-weaker c.check_push.result _ _ (λ x p s code i ls.
    p s (values.Long (pos 0)) refl ls ∙ ap (λ o. check_found s (frame_seen ls c.args.frame.now) (long_constant code i (operand_seen o))) (sym c.in-Long.is)) c.check_push.ensures.constant
