-- What is answered of slots by the table of a program.
use Rattle.std.specs.Prelude.{◌≡◌, ◌++◌, ℕ, List, Option, Some}
use Rattle.slot_table.specs.declared.slot.Slot.{Slot}
use Rattle.bytecode_model.specs.Program.{Program}
use Rattle.method_flow.specs.Flow.{IsFlowOf}
use Rattle.method_flow.specs.declared.timing.Timing.{Timing}
use Rattle.method_flow.specs.Keeping.{BoundOf}
use Rattle.node_costs.specs.Costs.{bounds_of}
use Rattle.bound_rules.specs.Bounding.{HasNoCause}
use Rattle.bound_rules.specs.Numbers.{IsPrinted}
use Rattle.bound_finder.specs.Certified.{IsCertified}
use Rattle.bound_rules.specs.declared.faults.BoundRefusal.{BoundRefusal}
use Rattle.answer_lines.specs.declared.plan.PlanCause.{PlanCause}
use Rattle.answer_lines.specs.declared.plan.PlanCause.TheVariants as plans
use Rattle.analysis_commands.specs.declared.analysis.Analysis.{Analysis}
use Rattle.slot_plans.specs.declared.plan.NotPlanned.{NotPlanned}
use Rattle.slot_plans.specs.declared.plan.NotPlanned.TheVariants.{NoAnalysis, Refused, NoMemory}
use Rattle.analysis_commands.specs.Answers.{table_name}
use Rattle.analysis_commands.specs.Bounding.{cause_of, subject_of}
use Rattle.analysis_commands.specs.BoundAnswers.{IsCauseOf}
use Rattle.slot_plans.specs.Plan.{IsSlotBound, KeepsLength, plan_line, IsPlanOf, IsSlotRefusal, IsNoPlanOf}

-- ---- the slots, in each program of the table

-- nothing forbids a bound of the method, and this is what is printed of it and what a certificate says
pub record IsBoundOfMethod (P : Program) (t : Timing) (bound_of : BoundOf) (method : ℕ) (bound : Option ℕ) : Type 0 where
  pub no_cause : HasNoCause P t bound_of method
  pub printed : IsPrinted P t bound_of method bound
  pub certified : IsCertified P t bound_of method bound

abbrev pub IsBoundOfMethodIn : Analysis → (method : ℕ) → (bound : Option ℕ) → Type 0
IsBoundOfMethodIn a m bound = (P : Program) → IsFlowOf P a.flow → IsBoundOfMethod P a.timing (bounds_of a.flow a.bounds) m bound

-- the refusal of a slot by what forbids a bound of its method, or there was no memory for what the line names
abbrev pub IsSlotCause : (name : ℕ → List ℕ) → (slot : ℕ) → BoundRefusal → NotPlanned → Type 0
IsSlotCause name i refusal (NoAnalysis fault) = ⊥
IsSlotCause name i refusal (Refused (plans.Slot slot cause) subject) = (slot ≡ i) × (cause_of refusal ≡ Some cause) × (subject.items ≡ subject_of name refusal)
IsSlotCause name i refusal (Refused (plans.Late slot bound length) subject) = ⊥
IsSlotCause name i refusal NoMemory = Unit {0}

-- some cause forbids a bound of the method, and the slot is refused by it
pub record IsRefusedMethod (a : Analysis) (slot method : ℕ) (answer : NotPlanned) : Type 0 where
  pub refusal : BoundRefusal
  pub is : IsCauseOf a (λ m. m ≡ method) refusal
  pub says : IsSlotCause (table_name a.flow) slot refusal answer

abbrev pub IsSlotBoundIn : Analysis → (slot : ℕ) → (bound : Option ℕ) → Type 0
IsSlotBoundIn a i bound = (P : Program) → IsFlowOf P a.flow → IsSlotBound P a.timing (bounds_of a.flow a.bounds) (table_name a.flow) i bound

abbrev pub KeepsLengthIn : Analysis → (slot : ℕ) → Slot → (bound : ℕ) → Type 0
KeepsLengthIn a i s bound = (P : Program) → IsFlowOf P a.flow → KeepsLength P a.timing (bounds_of a.flow a.bounds) (table_name a.flow) i s bound

abbrev pub IsSlotRefusalIn : Analysis → (slot : ℕ) → Slot → PlanCause → (subject : List ℕ) → Type 0
IsSlotRefusalIn a i s cause subject =
    (P : Program) → IsFlowOf P a.flow → IsSlotRefusal P a.timing (bounds_of a.flow a.bounds) (table_name a.flow) i s cause subject

abbrev pub IsSlotRefusedBy : Analysis → (slot : ℕ) → Slot → NotPlanned → Type 0
IsSlotRefusedBy a i s (NoAnalysis fault) = ⊥
IsSlotRefusedBy a i s (Refused cause subject) = IsSlotRefusalIn a i s cause subject.items
IsSlotRefusedBy a i s NoMemory = Unit {0}

-- a line was put behind the text, of a bound that keeps the slot's length
pub record HasSlotLine (a : Analysis) (slot : ℕ) (s : Slot) (old new : List ℕ) : Type 0 where
  pub bound : ℕ
  pub keeps : KeepsLengthIn a slot s bound
  pub new_is : new ≡ old ++ plan_line slot s bound

-- ---- the plan

abbrev pub IsPlanIn : Analysis → List Slot → (text : List ℕ) → Type 0
IsPlanIn a slots text = (P : Program) → IsFlowOf P a.flow → IsPlanOf P a.timing (bounds_of a.flow a.bounds) (table_name a.flow) slots text

abbrev pub IsNotPlannedBy : Analysis → List Slot → NotPlanned → Type 0
IsNotPlannedBy a slots (NoAnalysis fault) = ⊥
IsNotPlannedBy a slots (Refused cause subject) =
    (P : Program) → IsFlowOf P a.flow → IsNoPlanOf P a.timing (bounds_of a.flow a.bounds) (table_name a.flow) slots cause subject.items
IsNotPlannedBy a slots NoMemory = Unit {0}
