-- Calls of the program: what `Correct` speaks of.
use Rattle.std.specs.Prelude.{◌≡◌, ℕ, ◌+◌, ◌<◌, ◌≤◌, List, [], length, slice_index_or, sum_by, Some}
use Rattle.std.specs.declared.option.Option.{Option}
use Rattle.outside.specs.Outside.{Grew, Rose}
use Rattle.outside.specs.Files.{most_bytes}
use Rattle.endings.specs.declared.outcome.Outcome.{Outcome}
use Rattle.endings.specs.declared.outcome.Outcome.TheVariants.{NoMemory}
use Rattle.endings.specs.World.{World, IsQuiet}
use Rattle.jop_cli.specs.Answer.{Answered}

-- A call: its words, what the outside and err told before and after, their counts of faults, and the outcome, which is what the clause of `jop` says.
pub record Call : Type 0 where
  pub words : List (List ℕ)
  pub old : World
  pub new : World
  pub err_old : Option (List ℕ)
  pub err_new : Option (List ℕ)
  pub err_faults_old : ℕ
  pub err_faults_new : ℕ
  pub outcome : Outcome
  pub answered : Answered words old new err_old err_new err_faults_old err_faults_new outcome

-- no call on a file of which the bytes are told, on the input, on out or on err failed
pub record NothingFailed (c : Call) : Type 0 where
  pub files : (k : ℕ) (bytes : List ℕ) → c.old.files k ≡ Some bytes → ¬ Rose (c.old.file_faults k) (c.new.file_faults k)
  pub input : ¬ Rose c.old.read_faults c.new.read_faults
  pub out : ¬ Rose c.old.out_faults c.new.out_faults
  pub err : ¬ Rose c.err_faults_old c.err_faults_new

-- there was no memory, and the input, out and the watch are as they were
pub record LacksMemory (c : Call) : Type 0 where
  pub outcome : c.outcome ≡ NoMemory
  pub quiet : IsQuiet c.old c.new

-- these bytes were put out, and err was given this line
pub record PutsOut (c : Call) (bytes line : List ℕ) : Type 0 where
  pub out : Grew c.old.out c.new.out bytes
  pub err : Grew c.err_old c.err_new line

-- the file of a word is told to have these bytes, not too many
pub record IsTold (c : Call) (word : ℕ) (bytes : List ℕ) : Type 0 where
  pub told : c.old.files word ≡ Some bytes
  pub short : length bytes ≤ most_bytes

-- the files of the words from one on are told to have these bytes, not too many together
pub record OperandsAreTold (c : Call) (first : ℕ) (files : List (List ℕ)) : Type 0 where
  pub many : first + length files ≡ c.old.words
  pub told : (k : ℕ) → k < length files → c.old.files (first + k) ≡ Some (slice_index_or files k [])
  pub few : sum_by length files ≤ most_bytes

-- What the contract of `jop` says of its arguments and of its outcome makes a call of them.
abbrev pub call_of : (words : List (List ℕ)) → (old new : World) → (err_old err_new : Option (List ℕ)) → (before now : ℕ) → (outcome : Outcome)
    → Answered words old new err_old err_new before now outcome → Call
call_of words old new err_old err_new before now outcome answered =
    record {
      words = words;
      old = old;
      new = new;
      err_old = err_old;
      err_new = err_new;
      err_faults_old = before;
      err_faults_new = now;
      outcome
          = outcome;
      answered = answered;
    }
