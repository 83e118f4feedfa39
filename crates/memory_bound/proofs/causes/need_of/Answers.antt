use Rattle.std.proofs.Common.{◌≡◌, ℕ, List, IfErr, sym, subst, rules}
use Rattle.std.proofs.lemmas.Result.{IfOk-weaker}
use Rattle.method_flow.specs.Flow.{Flow, IsFlowOf}
use Rattle.call_regions.specs.Calling.{IsTargetsFirst}
use Rattle.call_regions.proofs.Sorting.{if_err}
use Rattle.memory_rules.specs.declared.causes.NeedFault.{NeedFault}
use Rattle.memory_bound.specs.Setting.{bounds_in, lengths_in}
use Rattle.memory_bound.specs.Causes.{IsNeedFault}
use Rattle.memory_bound.proofs.Answering.{of_calls}
use Rattle.memory_bound.proofs.causes.need_of.Goals as goal

pub returns-in_err-order-clause-cause : goal.returns-in_err-order-clause-cause
returns-in_err-order-clause-cause c =
    let task = c.args.task.now in
    let fault = c.in_err-order.field-0.0 in
    let same : IfErr c.from_residual.result (λ e. e ≡ fault) = search rules in
    if_err c.from_residual.result (λ e. e ≡ fault) _
    (λ e is P flow sites.
    let told = subst (λ (f : Flow). IsFlowOf P f) (sym c.flow.ensures.flow) flow in
    subst (λ (x : NeedFault). IsNeedFault P (bounds_in task) (lengths_in task) x) (sym is)
    (of_calls P (bounds_in task) (lengths_in task) fault (c.in_err-order.ensures.cause P told)))
    same

pub returns-clause-need : goal.returns-clause-need
returns-clause-need c =
    IfOk-weaker c.need_in.result _ _
    (λ n is P flow sites.
    let told = subst (λ (f : Flow). IsFlowOf P f) (sym c.flow.ensures.flow) flow in
    is P flow sites (subst (λ (xs : List ℕ). IsTargetsFirst P P.boot xs) (sym c.as_slice.ensures) (c.in_ok-order.ensures.order P told)))
    c.need_in.ensures.need

pub returns-clause-cause : goal.returns-clause-cause
returns-clause-cause c =
    if_err c.need_in.result _ _
    (λ e is P flow sites.
    let told = subst (λ (f : Flow). IsFlowOf P f) (sym c.flow.ensures.flow) flow in
    is P flow sites (subst (λ (xs : List ℕ). IsTargetsFirst P P.boot xs) (sym c.as_slice.ensures) (c.in_ok-order.ensures.order P told)))
    c.need_in.ensures.cause
