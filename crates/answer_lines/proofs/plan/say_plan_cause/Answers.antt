use Rattle.std.proofs.Common.{false, sym, subst}
use Rattle.std.specs.List.{concat}
use Rattle.answer_lines.specs.Said.{Said}
use Rattle.answer_lines.specs.declared.plan.PlanCause.{PlanCause}
use Rattle.answer_lines.specs.PlanLines.{plan_parts}
use Rattle.answer_lines.proofs.plan.say_plan_cause.Goals as goal

pub returns-in-Slot-clause-said : goal.returns-in-Slot-clause-said
returns-in-Slot-clause-said g c =
    let P : PlanCause → Type 0 = λ x. Said false (concat (plan_parts x c.args.subject.now)) (g.O.Sink.held c.args.sink.now) (g.O.Sink.held c.say_behind.new.sink) (g.O.Sink.faults c.args.sink.now) (g.O.Sink.faults c.say_behind.new.sink) c.say_behind.result in
    subst P (sym c.in-Slot.is) c.say_behind.ensures.said
