-- What is asked of an image, by `check`, `bound`, `report`, `loops`, `headers`, `memory` or `rtl`, is answered.
use Rattle.std.specs.Prelude.{◌≡◌, ℕ, List, [], Vec, length, Ok}
use Rattle.std.specs.declared.alloc.Global.{Global}
use Rattle.image_file.specs.Linked as file
use Rattle.endings.specs.declared.outcome.Answer.TheVariants.{Text, Ends}
use Rattle.jop_cli.specs.promises.Words.{Parts, Ending, Written, line_of, Grew, IsQuiet, Call, LacksMemory, PutsOut, outcome_of, Command, command_of}
use Rattle.jop_cli.specs.promises.Words.{IsLinked, image_of, text_of_word, NothingFailed, OperandsAreTold, task_of}
use Rattle.ask_commands.specs.declared.asking.Question.{Question}
use Rattle.ask_commands.specs.declared.asking.Asked.{Asked}
use Rattle.jop_cli.specs.declared.task.Task.TheVariants.{Ask}
use Rattle.ask_commands.specs.Asking.{IsAnswer}

-- What comes of a question about what is linked: the whole of a text was put that answers it, and no line; or a line was said, and nothing was put,
-- where an ending answers; or there was no memory.
pub data IsAnswered (c : Call) (question : Question) (l : Parts) (files : List (List ℕ)) : Type 0 where
  puts : (text : Vec ℕ Global) → IsAnswer c.words question l files (Text text) → c.outcome ≡ Written → PutsOut c text.items [] → IsAnswered c question l files
  says : (ending : Ending) → IsAnswer c.words question l files (Ends ending) → c.outcome ≡ outcome_of ending
      → Grew c.err_old c.err_new (line_of c.words ending)
      → IsQuiet c.old c.new → IsAnswered c question l files
  lacks : LacksMemory c → IsAnswered c question l files

-- Of each question just that comes: `IsAnswer` says of each text and of each ending when it answers.
abbrev pub QuestionsAreAnswered : Type 0
QuestionsAreAnswered =
    (c : Call) (command : Command) (asked : Asked) (l : Parts) (files : List (List ℕ)) → command_of c.words ≡ Ok command → task_of command ≡ Ask asked
    → length files ≡ asked.operands → OperandsAreTold c asked.image files → IsLinked l → file.IsLinkedFile (text_of_word files 0) (image_of l) → NothingFailed c
    → IsAnswered c asked.question l files
