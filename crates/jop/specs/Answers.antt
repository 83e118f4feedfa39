-- What the process answers: of itself, or by a call of the program.
use Rattle.std.specs.Prelude.{◌≡◌, ◌⊎◌, ℕ, ◌<◌, ◌≤◌, List, length, map, take, None, Some}
use Rattle.std.specs.declared.option.Option.{Option}
use Rattle.outside.specs.Outside.{Grew, Rose}
use Rattle.jop.specs.declared.help.Question.{Question}
use Rattle.jop.specs.Help.{question_of, help_text}
use Rattle.jop_cli.specs.Process.{Sinks, sinks, IsWordsStatus}

-- A text was put on standard output whole, with status 0; or that failed, with status 4, and a front of the text was put.
pub record IsTold (text : List ℕ) (old : Option (List ℕ)) (faults : ℕ) (new : Option (List ℕ)) (faults' : ℕ) (status : ℕ) : Type 0 where
  pub later : faults ≤ faults'
  pub put : ((status ≡ 0) × Grew old new text)
      ⊎ ((status ≡ 4) × (Rose faults faults' × ((n : ℕ) × (n < length text) × Grew old new (take n text))))

-- The text that answers a question was put, and nothing on standard error.
pub record IsHelp (question : Question) (old new : Sinks) (status : ℕ) : Type 0 where
  pub told : IsTold (help_text question) old.out.bytes old.out.faults new.out.bytes new.out.faults status
  pub same : new.err ≡ old.err

-- What the words ask of the program itself is answered; of all other words the status is that of a call.
abbrev pub IsAnswerOf :
    Option Question → (words : List (List ℕ)) → (files : List (Option (List ℕ))) → (left : Option (List ℕ)) → (old new : Sinks) → (status : ℕ) → Type 0
IsAnswerOf (Some question) words files left old new status = IsHelp question old new status
IsAnswerOf None words files left old new status = IsWordsStatus words files left old new status

-- what the process answers to these words
abbrev pub IsAnswered : (words : List (List ℕ)) → (files : List (Option (List ℕ))) → (left : Option (List ℕ)) → (old new : Sinks) → (status : ℕ) → Type 0
IsAnswered words files left old new status = IsAnswerOf (question_of words) words files left old new status

-- the sinks of a process before the first call on them, which tell no bytes
abbrev pub silent : Sinks
silent = sinks None 0 None 0

-- This process answered so over its files and streams, which tell nothing; or there was no memory for the words.
abbrev pub IsProcessStatus : (words : List (List ℕ)) → ℕ → Type 0
IsProcessStatus words status = (status ≡ 5) ⊎ ((new : Sinks) × IsAnswered words (map (λ word. None) words) None silent new status)
