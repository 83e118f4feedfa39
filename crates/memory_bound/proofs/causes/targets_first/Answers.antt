use Rattle.std.proofs.Common.{ℕ, ◌∙◌, subst}
use Rattle.method_flow.specs.Recursion.{IsRecursion}
use Rattle.call_regions.specs.Calling.{IsTargetsFirst, IsCallCause}
use Rattle.call_regions.specs.declared.answers.CallFault.{CallFault}
use Rattle.memory_bound.proofs.causes.targets_first.Goals as goal

pub returns-in-Ok-clause-order : goal.returns-in-Ok-clause-order
returns-in-Ok-clause-order c = λ P flow.
    subst (λ (root : ℕ). IsTargetsFirst P root c.in-Ok.order.methods) (c.boot.ensures.boot ∙ flow.boot) (c.in-Ok.ensures.order P flow)

pub returns-in-Err-Recursion-clause-cause : goal.returns-in-Err-Recursion-clause-cause
returns-in-Err-Recursion-clause-cause c = λ P flow.
    let cause = subst (λ (e : CallFault). IsCallCause P c.boot.result e) c.in-Err-Recursion.field-0-is (c.in-Err-Recursion.ensures.cause P flow) in
    subst (λ (root : ℕ). IsRecursion P root c.in-Err-Recursion.cycle) (c.boot.ensures.boot ∙ flow.boot) cause
