use Rattle.std.proofs.Common.{List, subst}
use Rattle.std.specs.Prelude.{IfOk, IfErr}
use Rattle.slot_table.specs.declared.slot.Slot.{Slot}
use Rattle.slot_plans.specs.PlanAnswers.{IsPlanIn, IsNotPlannedBy}
use Rattle.slot_plans.proofs.Slotting.{plan_ok, plan_err}
use Rattle.slot_plans.proofs.plan.plan_lines.Goals as goal

pub returns-in-Ok-clause-plan : goal.returns-in-Ok-clause-plan
returns-in-Ok-clause-plan c =
    let Q : List Slot → Type 0 = λ xs. IfOk c.lines_of.result (λ text. IsPlanIn c.in-Ok.analysis xs text.items) in
    plan_ok c.args.program.now c.args.settings.now c.args.bounds.now c.in-Ok.analysis c.in-Ok.ensures.analysis c.args.table.now c.lines_of.result (subst Q c.slots.ensures.slots c.lines_of.ensures.plan)

pub returns-in-Ok-clause-refused : goal.returns-in-Ok-clause-refused
returns-in-Ok-clause-refused c =
    let Q : List Slot → Type 0 = λ xs. IfErr c.lines_of.result (IsNotPlannedBy c.in-Ok.analysis xs) in
    plan_err c.args.program.now c.args.settings.now c.args.bounds.now c.in-Ok.analysis c.in-Ok.ensures.analysis c.args.table.now c.lines_of.result (subst Q c.slots.ensures.slots c.lines_of.ensures.refused)
