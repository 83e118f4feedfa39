-- What `work` promises.
use Rattle.std.specs.Prelude.{◌≡◌, ℕ, List, [], Ok}
use Rattle.command_line.specs.declared.command.Command.TheVariants.{Work}
use Rattle.endings.specs.declared.outcome.Ending.TheVariants as endings
use Rattle.run_commands.specs.Working.{IsWorkLine, NotWorked}
use Rattle.jop_cli.specs.promises.Words.{Written, Call, PutsOut, Ending, LacksMemory, command_of, NothingFailed}
use Rattle.jop_cli.specs.promises.Answers.{AnswersEnding}

-- The line was put that says what came of the class W with so many methods, and no other.
pub record IsWorkedBy (c : Call) (n : ℕ) : Type 0 where
  pub outcome : c.outcome ≡ Written
  pub line : List ℕ
  pub is : IsWorkLine n line
  pub puts : PutsOut c line []

-- this stands in its way
abbrev pub Hinders : (n : ℕ) → Ending → Type 0
Hinders n endings.NoMemory = ⊥
Hinders n ending = NotWorked n ending

-- What comes of the words: the line was put; or a line was said that tells what stands in its way, and nothing was put; or there was no memory.
pub data IsWorked (c : Call) (n : ℕ) : Type 0 where
  puts : IsWorkedBy c n → IsWorked c n
  says : (ending : Ending) → Hinders n ending → AnswersEnding c ending → IsWorked c n
  lacks : LacksMemory c → IsWorked c n

abbrev pub WorkingIsComplete : Type 0
WorkingIsComplete = (c : Call) (n : ℕ) → command_of c.words ≡ Ok (Work n) → NothingFailed c → IsWorked c n

-- Where the answer is that it is written, it is true: of the run, and of the bound of main, which is kept.
abbrev pub WorkLinesAreTrue : Type 0
WorkLinesAreTrue = (c : Call) (n : ℕ) → command_of c.words ≡ Ok (Work n) → c.outcome ≡ Written → IsWorkedBy c n
