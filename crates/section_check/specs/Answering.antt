-- That a section has one answer.
use Rattle.std.specs.Prelude.{◌≡◌, ℕ, List, Option, Result}
use Rattle.loop_nest.specs.Digraph.{Digraph}
use Rattle.section_check.specs.declared.section.SectionFault.{SectionFault}
use Rattle.section_check.specs.Section.{Certified}
use Rattle.section_check.specs.Conditions.{IsSectionAnswer}

-- no two answers are right, so that all checks that answer rightly answer the same
abbrev pub AnswersAreOne : Type 0
AnswersAreOne =
    (g : Digraph) (costs : List ℕ) (c : Certified) (bounds : List ℕ) (loads : List (Option ℕ)) (a b : Result (Option ℕ) SectionFault)
    → IsSectionAnswer g costs c bounds loads a → IsSectionAnswer g costs c bounds loads b → a ≡ b
