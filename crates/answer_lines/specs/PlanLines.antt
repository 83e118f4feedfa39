-- The lines of plans of a cyclic executive that aren't kept. Each line is its parts, one after another.
use Rattle.std.specs.Prelude.{ℕ, List, [], ◌∷◌, Option, codes, decimal}
use Rattle.certificates.specs.CertLines.{bound_text}
use Rattle.answer_lines.specs.declared.plan.PlanCause.{PlanCause}
use Rattle.answer_lines.specs.declared.plan.PlanCause.TheVariants.{Slot, Late}
use Rattle.answer_lines.specs.AnalysisLines.{cause_tail}

-- the bound of the slot's method in cycles, or that it never ends, and the length of the slot
abbrev pub late_parts : (slot : ℕ) → (bound : Option ℕ) → (length : ℕ) → List (List ℕ)
late_parts slot bound length = codes "plan: late " ∷ decimal slot ∷ codes " bound=" ∷ bound_text bound ∷ codes " length=" ∷ decimal length ∷ codes "\n" ∷ []

-- why no plan is given, with what the line names where a slot's method has no bound
abbrev pub plan_parts : PlanCause → (subject : List ℕ) → List (List ℕ)
plan_parts (Slot slot cause) subject = codes "plan: slot " ∷ decimal slot ∷ cause_tail cause subject
plan_parts (Late slot bound length) subject = late_parts slot bound length
