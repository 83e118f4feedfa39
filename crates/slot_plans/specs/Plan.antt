-- What `plan` finds of a program that was linked with a cyclic executive, of the bounds of its loops, and of the executive's slots: that the bound of each
-- slot's method keeps the slot's length, or which slot is the first of which this can't be said.
use Rattle.std.specs.Prelude.{◌≡◌, ◌⊎◌, ℕ, suc, ◌<◌, ◌≤◌, List, [], ◌∷◌, ◌++◌, length, Option, Some, IfSome, slice_get, codes, decimal}
use Rattle.class_pool.specs.declared.class.ClassFile.{ClassFile}
use Rattle.program_tables.specs.Resolved.{resolved}
use Rattle.slot_table.specs.declared.slot.Slot.{Slot}
use Rattle.slot_table.specs.Slots.{slot_word}
use Rattle.command_line.specs.declared.command.Settings.{Settings}
use Rattle.bound_texts.specs.Loops.Bounds.{LoopBound}
use Rattle.bound_texts.specs.Loops.Grammar.{IsRead}
use Rattle.bytecode_model.specs.Program.{Program}
use Rattle.method_flow.specs.declared.timing.Timing.{Timing}
use Rattle.method_flow.specs.Keeping.{BoundOf}
use Rattle.bound_rules.specs.declared.faults.BoundRefusal.{BoundRefusal}
use Rattle.bound_rules.specs.Bounding.{HasNoCause, IsCause}
use Rattle.bound_rules.specs.Numbers.{IsPrinted}
use Rattle.bound_finder.specs.Certified.{IsCertified}
use Rattle.answer_lines.specs.declared.bound.BoundCause.{BoundCause}
use Rattle.answer_lines.specs.declared.bound.BoundCause.TheVariants.{NoMethod}
use Rattle.answer_lines.specs.declared.plan.PlanCause.{PlanCause}
use Rattle.answer_lines.specs.declared.plan.PlanCause.TheVariants as plans
use Rattle.slot_plans.specs.declared.plan.NotPlanned.{NotPlanned}
use Rattle.slot_plans.specs.declared.plan.NotPlanned.TheVariants.{NoAnalysis, Refused, NoMemory}
use Rattle.analysis_commands.specs.Analysis.{EachFits, timing_of, bounds_of, named_or_number, IsAnalysisFault}
use Rattle.analysis_commands.specs.Bounding.{cause_of, subject_of}
use Rattle.analysis_commands.specs.Executive.{IsSlotMethod}

-- ---- the bounds

-- The bound in cycles of the slot's method, or that it never ends: nothing forbids it, it is what is printed of the method, and a certificate says it.
pub record IsSlotBound (P : Program) (t : Timing) (bound_of : BoundOf) (name : ℕ → List ℕ) (slot : ℕ) (bound : Option ℕ) : Type 0 where
  pub method : ℕ
  pub of_slot : IsSlotMethod P name slot method
  pub no_cause : HasNoCause P t bound_of method
  pub printed : IsPrinted P t bound_of method bound
  pub certified : IsCertified P t bound_of method bound

-- the bound keeps the length of the slot
pub record KeepsLength (P : Program) (t : Timing) (bound_of : BoundOf) (name : ℕ → List ℕ) (slot : ℕ) (s : Slot) (bound : ℕ) : Type 0 where
  pub is : IsSlotBound P t bound_of name slot (Some bound)
  pub keeps : bound ≤ s.length

-- ---- the plan

-- `slot I NAME bound=B length=C`
abbrev pub plan_line : (slot : ℕ) → Slot → (bound : ℕ) → List ℕ
plan_line i s bound =
    codes "slot " ++ (decimal i ++ (codes " " ++ (slot_word s ++ (codes " bound=" ++ (decimal bound
    ++ (codes " length=" ++ (decimal s.length ++ codes "\n")))))))

-- the lines of slots that are counted from this number on, with their bounds
abbrev pub plan_lines_from : (slot : ℕ) → List Slot → (bounds : List ℕ) → List ℕ
plan_lines_from i [] bounds = []
plan_lines_from i (s ∷ slots) [] = []
plan_lines_from i (s ∷ slots) (bound ∷ bounds) = plan_line i s bound ++ plan_lines_from (suc i) slots bounds

-- each slot has a bound that keeps its length, and the text has the lines of all, counted from 0
pub record IsPlanOf (P : Program) (t : Timing) (bound_of : BoundOf) (name : ℕ → List ℕ) (slots : List Slot) (text : List ℕ) : Type 0 where
  pub bounds : List ℕ
  pub long : length bounds ≡ length slots
  pub each : (i : ℕ) (s : Slot) (bound : ℕ) → slice_get slots i ≡ Some s → slice_get bounds i ≡ Some bound
      → KeepsLength P t bound_of name i s bound
  pub text_is : text ≡ plan_lines_from 0 slots bounds

-- each code fits the method cache, the bounds of loops are read, and with them this is the plan of the slots
pub record IsPlan (cs : List ClassFile) (s : Settings) (bounds_text : List ℕ) (slots : List Slot) (text : List ℕ) : Type 0 where
  pub codes_fit : EachFits s cs
  pub bounds : List LoopBound
  pub bounds_read : IsRead bounds_text bounds
  pub is : IsPlanOf (resolved cs) (timing_of s) (bounds_of cs bounds) (named_or_number cs) slots text

-- ---- the refusals

-- no method is the slot's
pub record HasNoMethod (P : Program) (name : ℕ → List ℕ) (slot : ℕ) (cause : BoundCause) (subject : List ℕ) : Type 0 where
  pub none : (m : ℕ) → ¬ IsSlotMethod P name slot m
  pub cause_is : cause ≡ NoMethod
  pub subject_is : subject ≡ []

-- this forbids a bound of the slot's method, with what the line names
pub record IsForbiddenSlot (P : Program) (t : Timing) (bound_of : BoundOf) (name : ℕ → List ℕ) (slot : ℕ) (cause : BoundCause) (subject : List ℕ) : Type 0 where
  pub method : ℕ
  pub of_slot : IsSlotMethod P name slot method
  pub refusal : BoundRefusal
  pub is : IsCause P t bound_of (λ m. m ≡ method) refusal
  pub cause_is : cause_of refusal ≡ Some cause
  pub subject_is : subject ≡ subject_of name refusal

-- the bound passes the length of the slot, or the slot's method never ends
pub record PassesLength (P : Program) (t : Timing) (bound_of : BoundOf) (name : ℕ → List ℕ) (slot : ℕ) (bound : Option ℕ) (length : ℕ) : Type 0 where
  pub is : IsSlotBound P t bound_of name slot bound
  pub past : IfSome bound (λ n. length < n)

-- why the length of the slot of this number isn't kept
abbrev pub IsSlotRefusal : Program → Timing → BoundOf → (name : ℕ → List ℕ) → (slot : ℕ) → Slot → PlanCause → (subject : List ℕ) → Type 0
IsSlotRefusal P t bound_of name i s (plans.Slot slot cause) subject =
    (slot ≡ i) × (HasNoMethod P name i cause subject ⊎ IsForbiddenSlot P t bound_of name i cause subject)
IsSlotRefusal P t bound_of name i s (plans.Late slot bound length) subject =
    (slot ≡ i) × (length ≡ s.length) × PassesLength P t bound_of name i bound length × (subject ≡ [])

-- the length of a slot isn't kept for this cause, and those of all slots before it are
pub record IsNoPlanOf (P : Program) (t : Timing) (bound_of : BoundOf) (name : ℕ → List ℕ) (slots : List Slot) (cause : PlanCause) (subject : List ℕ)
    : Type 0 where
  pub slot : ℕ
  pub parts : Slot
  pub there : slice_get slots slot ≡ Some parts
  pub before : (i : ℕ) (s : Slot) → i < slot → slice_get slots i ≡ Some s → (bound : ℕ) × KeepsLength P t bound_of name i s bound
  pub refused : IsSlotRefusal P t bound_of name slot parts cause subject

-- each code fits the method cache, the bounds of loops are read, and with them there is no plan for this cause, with what the line names
pub record IsNoPlan (cs : List ClassFile) (s : Settings) (bounds_text : List ℕ) (slots : List Slot) (cause : PlanCause) (subject : List ℕ) : Type 0 where
  pub codes_fit : EachFits s cs
  pub bounds : List LoopBound
  pub bounds_read : IsRead bounds_text bounds
  pub is : IsNoPlanOf (resolved cs) (timing_of s) (bounds_of cs bounds) (named_or_number cs) slots cause subject

-- why no plan is given, in this order: the methods, the bounds, the slots
abbrev pub IsNotPlanned : List ClassFile → Settings → (bounds_text : List ℕ) → List Slot → NotPlanned → Type 0
IsNotPlanned cs s bounds_text slots (NoAnalysis fault) = IsAnalysisFault cs s bounds_text fault
IsNotPlanned cs s bounds_text slots (Refused cause subject) = IsNoPlan cs s bounds_text slots cause subject.items
IsNotPlanned cs s bounds_text slots NoMemory = Unit {0}
