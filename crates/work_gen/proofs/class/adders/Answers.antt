use Rattle.std.proofs.Common.{◌≤◌, [], ◌∷◌, ◌++◌, List, sym, ap₂, ◌∙◌, arith}
use Rattle.class_making.specs.declared.plan.MethodPlan.{MethodPlan}
use Rattle.work_gen.specs.Work.{adder}
use Rattle.work_gen.proofs.Numbers.{map_next}
use Rattle.work_gen.proofs.class.adders.Goals as goal

pub loop-k-preserved : goal.loop-k-preserved
loop-k-preserved c =
    let some : 1 ≤ c.loop-k.k = omega arith in
    c.in_ok-push.ensures.items ∙ (ap₂ (λ (ms : List MethodPlan) (m : MethodPlan). ms ++ m ∷ []) c.loop-k.invariant c.in_ok-adder.ensures ∙ sym (map_next adder c.loop-k.k some))
