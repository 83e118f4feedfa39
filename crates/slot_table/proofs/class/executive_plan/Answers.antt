use Rattle.std.proofs.Common.{◌≡◌, ℕ, List, [], ◌∷◌, ap, ap₂, ◌∙◌, Some}
use Rattle.std.specs.Prelude.{codes}
use Rattle.class_making.specs.declared.plan.MethodPlan.{MethodPlan}
use Rattle.class_making.specs.declared.plan.ClassPlan.{ClassPlan}
use Rattle.class_making.specs.Plans.{bare_class}
use Rattle.slot_table.specs.Executive.{main_method, executive_plan}
use Rattle.slot_table.proofs.class.executive_plan.Goals as goal

pub returns : goal.returns
unfolding executive_plan
returns c =
    let methods : c.in_ok-methods.methods.items ≡ main_method c.args.slots.now c.args.rounds ∷ [] = c.in_ok-methods.ensures.items ∙ ap (λ (m : MethodPlan). m ∷ []) c.in_ok-main.ensures in
    ap (λ (p : ClassPlan). let q : ClassPlan = record p { major = 50 } in q)
    (c.in_ok-plan.ensures ∙ ap₂ (λ (o : List ℕ) (ms : List MethodPlan). bare_class 0x0021 (codes "Cyclic") (Some o) ms) c.in_ok-object.ensures methods)
