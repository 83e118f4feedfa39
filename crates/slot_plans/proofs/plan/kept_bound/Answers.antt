use Rattle.std.proofs.Common.{◌≡◌, IfErr, sym, subst, rules}
use Rattle.std.proofs.lemmas.Result.{IfErr-weaker}
use Rattle.slot_plans.specs.declared.plan.NotPlanned.{NotPlanned}
use Rattle.slot_plans.specs.PlanAnswers.{IsSlotRefusedBy}
use Rattle.slot_plans.proofs.plan.kept_bound.Goals as goal

pub returns-in_err-bound-clause-refused : goal.returns-in_err-bound-clause-refused
returns-in_err-bound-clause-refused c =
    let fault = c.in_err-bound.field-0.0 in
    let same : IfErr c.from_residual.result (λ e. e ≡ fault) = search rules in
    let R : NotPlanned → Type 0 = λ e. IsSlotRefusedBy c.args.analysis.now c.args.slot c.args.parts.now e in
    IfErr-weaker c.from_residual.result (λ e. e ≡ fault) R (λ e is. subst R (sym is) (c.in_err-bound.ensures.refused c.args.parts.now)) same
