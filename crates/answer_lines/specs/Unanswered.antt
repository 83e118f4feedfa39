-- The lines of questions about an image that aren't answered. Each line is its parts, one after another.
use Rattle.std.specs.Prelude.{ℕ, List, [], ◌∷◌, codes}
use Rattle.answer_lines.specs.declared.unanswered.Cause.{Cause}
use Rattle.answer_lines.specs.declared.unanswered.Cause.TheVariants.{Bound, Memory, Plan, NoLoop}
use Rattle.answer_lines.specs.AnalysisLines.{cause_parts}
use Rattle.answer_lines.specs.MemoryLines.{need_cause_parts}
use Rattle.answer_lines.specs.PlanLines.{plan_parts}

-- why no bound is given, or no need of memory, or no plan, or what heads no loop, with what the line names
abbrev pub unanswered_parts : Cause → (subject : List ℕ) → List (List ℕ)
unanswered_parts (Bound cause) subject = cause_parts cause subject
unanswered_parts (Memory cause) subject = need_cause_parts cause subject
unanswered_parts (Plan cause) subject = plan_parts cause subject
unanswered_parts NoLoop subject = codes "no loop " ∷ subject ∷ codes "\n" ∷ []
