-- What is answered by a line: an ending, a refusal of class files, or what a question says.
use Rattle.std.specs.Prelude.{◌≡◌, ℕ, List, Vec}
use Rattle.std.specs.declared.alloc.Global.{Global}
use Rattle.std.specs.List.{concat}
use Rattle.endings.specs.declared.outcome.Ending.TheVariants as endings
use Rattle.endings.specs.declared.outcome.Outcome.{Outcome}
use Rattle.endings.specs.Linking.{HasName}
use Rattle.jop_cli.specs.promises.Words.{Ending, line_of, Grew, IsQuiet, Call, outcome_of, LinkRefusal}

-- ---- `link`

-- This ending was answered: its line was said, and nothing else was done.
pub record AnswersEnding (c : Call) (ending : Ending) : Type 0 where
  pub outcome : c.outcome ≡ outcome_of ending
  pub line : Grew c.err_old c.err_new (line_of c.words ending)
  pub quiet : IsQuiet c.old c.new

-- So this refusal was, and the line names what it names in the files.
pub record AnswersRefusal (c : Call) (files : List (List ℕ)) (refusal : LinkRefusal) : Type 0 where
  pub name : Vec ℕ Global
  pub names : HasName files refusal name.items
  pub answers : AnswersEnding c (endings.NotLinked refusal name)

-- ---- `check`

-- err was given this line, and nothing else was done
pub record AnswersLine (c : Call) (outcome : Outcome) (parts : List (List ℕ)) : Type 0 where
  pub outcome_is : c.outcome ≡ outcome
  pub line : Grew c.err_old c.err_new (concat parts)
  pub quiet : IsQuiet c.old c.new
