use Rattle.std.proofs.Common.{ℕ, List, sym, subst}
use Rattle.method_flow.specs.Recursion.{IsRecursion}
use Rattle.call_regions.specs.Calling as calling
use Rattle.call_regions.specs.declared.answers.CallFault.{CallFault}
use Rattle.bound_causes.proofs.causes.targets_first.Goals as goal

pub returns-in-Err-Recursion-clause-cause : goal.returns-in-Err-Recursion-clause-cause
returns-in-Err-Recursion-clause-cause c = λ P flow.
    let C : CallFault → Type 0 = λ e. calling.IsCallCause P c.args.root e in
    let Q : List ℕ → Type 0 = λ xs. IsRecursion P c.args.root xs in
    subst Q (sym c.into_vec.ensures) (subst C c.in-Err-Recursion.field-0-is (c.in-Err-Recursion.ensures.cause P flow))
