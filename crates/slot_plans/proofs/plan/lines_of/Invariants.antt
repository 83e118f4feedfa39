use Rattle.std.proofs.Common.{take}
use Rattle.slot_plans.specs.PlanAnswers.{IsPlanIn}
use Rattle.slot_plans.proofs.plan.lines_of.Given as goal

abbrev pub invariant-loop-slot : goal.invariant-loop-slot
invariant-loop-slot l = IsPlanIn l.analysis (take l.slot l.slots) l.text.items
