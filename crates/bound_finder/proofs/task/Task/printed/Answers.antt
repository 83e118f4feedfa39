use Rattle.std.proofs.Common.{ℕ, Option, None, refl, sym, subst}
use Rattle.bytecode_model.specs.Program.{Program}
use Rattle.method_flow.specs.Costs.{IsPrintedOf}
use Rattle.method_flow.specs.Flow.{IsFlowOf}
use Rattle.bound_finder.specs.Known.{BoundSetting}
use Rattle.bound_finder.proofs.task.Task.printed.Goals as goal

pub returns-in-None : goal.returns-in-None
returns-in-None c =
    let full = c.args.full in
    let a = c.self.inside in
    let is = c.self.invariant in
    let N : Option ℕ → Type 0 = λ o. (P : Program) → IsFlowOf P a.flow.now → IsPrintedOf P a.timing o None in
    subst (λ (s : BoundSetting). (P : Program) → IsFlowOf P s.flow → IsPrintedOf P s.timing full None) c.self.view_is
    (subst N (sym c.in-None.is) (λ P flow. record {
      invoke = a.invoke;
      is_invoke = is.is_invoke;
      greatest_load = a.greatest_load;
      is_load = is.is_load P flow;
      is = refl;
    }))
