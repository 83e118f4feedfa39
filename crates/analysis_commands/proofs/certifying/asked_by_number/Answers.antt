use Rattle.std.proofs.Common.{sym, ◌∙◌}
use Rattle.analysis_commands.proofs.Bounding.{asked_number_err}
use Rattle.analysis_commands.proofs.certifying.asked_by_number.Goals as goal

pub returns-clause-cause : goal.returns-clause-cause
returns-clause-cause c =
    asked_number_err c.args.analysis.now c.args.method c.cause_of_root.result c.requires (λ same. c.if-method-boot.false (same ∙ sym c.boot.ensures.boot)) c.cause_of_root.ensures.cause
