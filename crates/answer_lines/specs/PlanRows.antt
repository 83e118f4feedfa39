-- Lines of plans and of runs of a cyclic executive, worked out by hand.
use Rattle.std.specs.Prelude.{◌≡◌, [], Some, None, codes}
use Rattle.std.specs.List.{concat}
use Rattle.answer_lines.specs.declared.bound.BoundCause.TheVariants.{NoMethod, Recursion, MissingBound}
use Rattle.answer_lines.specs.declared.plan.PlanCause.TheVariants.{Slot, Late}
use Rattle.answer_lines.specs.declared.line.SlotCounts.{SlotCounts}
use Rattle.answer_lines.specs.declared.line.Line.TheVariants.{CycleEnded, CycleSpent}
use Rattle.answer_lines.specs.Line.{line_of}
use Rattle.answer_lines.specs.PlanLines.{plan_parts}

abbrev pub slot_counts : SlotCounts
slot_counts = record { slots = 3; late = 0; idle = 299976; clock = 1234 }

pub record PlanLineRows : Type 0 where
  pub recursion : concat (plan_parts (Slot 0 Recursion) (codes " A.a()V A.b()V")) ≡ codes "plan: slot 0 recursion A.a()V A.b()V\n"
  pub lacking : concat (plan_parts (Slot 2 (MissingBound 5 7)) (codes "A.a()V")) ≡ codes "plan: slot 2 missing bound A.a()V 7\n"
  pub no_method : concat (plan_parts (Slot 1 NoMethod) []) ≡ codes "plan: slot 1 no method\n"
  pub late : concat (plan_parts (Late 0 (Some 8) 1) []) ≡ codes "plan: late 0 bound=8 length=1\n"
  pub never : concat (plan_parts (Late 63 None 100000) []) ≡ codes "plan: late 63 bound=never length=100000\n"
  pub ended : line_of (CycleEnded slot_counts) ≡ codes "ended slots=3 late=0 idle=299976 cycles=1234\n"
  pub spent : line_of (CycleSpent slot_counts) ≡ codes "spent slots=3 late=0 idle=299976 cycles=1234\n"
