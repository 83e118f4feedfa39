use Rattle.std.proofs.Common.{ℕ, Option, refl, subst}
use Rattle.analysis_commands.specs.ExecutiveAnswers.{IsExecutiveIn}
use Rattle.analysis_commands.proofs.Executives.{slot_ok}
use Rattle.analysis_commands.proofs.executive.slot_method.Goals as goal

pub returns-clause-method : goal.returns-clause-method
returns-clause-method c =
    let E : Option ℕ → Type 0 = λ o. IsExecutiveIn c.args.flow.now o in
    let first = subst E c.in_ok-executive.was c.requires.executive in
    slot_ok c.args.flow.now c.in_ok-executive.field-0 c.args.slot _ c.target_at.result first refl c.target_at.ensures.only
