-- The status that a process ends with, and what its two sinks tell then.
use Rattle.std.specs.Prelude.{◌≡◌, ◌⊎◌, ℕ, ◌<◌, ◌≤◌, ◌^◌, List, length, None}
use Rattle.std.specs.declared.option.Option.{Option}
use Rattle.outside.specs.Host.{StreamState, told_at}
use Rattle.endings.specs.declared.outcome.Outcome.{Outcome}
use Rattle.endings.specs.World.{World}
use Rattle.jop_cli.specs.Answer.{Answered}
use Rattle.endings.specs.Status.{status_of}

-- The program was called with these words, and this is the status of its outcome.
pub record IsStatus (words : List (List ℕ)) (old new : World) (err err' : Option (List ℕ)) (faults faults' : ℕ) (status : ℕ) : Type 0 where
  pub outcome : Outcome
  pub answered : Answered words old new err err' faults faults' outcome
  pub status_is : status ≡ status_of outcome

-- what standard output and standard error tell: the bytes that each holds, and how many calls on it failed
pub record Sinks : Type 0 where
  pub out : StreamState
  pub err : StreamState

abbrev pub sinks : (out : Option (List ℕ)) → (out_faults : ℕ) → (err : Option (List ℕ)) → (err_faults : ℕ) → Sinks
sinks out out_faults err err_faults =
    record { out = record { bytes = out; faults = out_faults }; err = record { bytes = err; faults = err_faults } }

-- No call on the files and the input has failed, and no state was handed to the watch. The files of so many words, the input and out tell this.
pub record IsNew (words : ℕ) (files : List (Option (List ℕ))) (left : Option (List ℕ)) (out : StreamState) (w : World) : Type 0 where
  pub count : w.words ≡ words
  pub told : (k : ℕ) → w.files k ≡ told_at files k
  pub unfailed : (k : ℕ) → w.file_faults k ≡ 0
  pub input : w.left ≡ left
  pub reads : w.read_faults ≡ 0
  pub output : w.out ≡ out.bytes
  pub writes : w.out_faults ≡ out.faults
  pub watch : w.watch ≡ None

-- The program was called so over new files and a new input that tell this. What the sinks tell at the end is what they told after the call.
pub record IsNewStatus (words : List (List ℕ)) (files : List (Option (List ℕ))) (left : Option (List ℕ)) (old new : Sinks) (status : ℕ) : Type 0 where
  pub before : World
  pub begins : IsNew (length words) files left old.out before
  pub after : World
  pub output : after.out ≡ new.out.bytes
  pub writes : after.out_faults ≡ new.out.faults
  pub is : IsStatus words before after old.err.bytes new.err.bytes old.err.faults new.err.faults status

-- No call was made: the status says why, and the sinks tell what they told.
pub record IsUncalled (cause : ℕ) (old new : Sinks) (status : ℕ) : Type 0 where
  pub status_is : status ≡ cause
  pub same : new ≡ old

-- The program was called, or there was no memory for the objects.
abbrev pub IsCalledStatus : (words : List (List ℕ)) → (files : List (Option (List ℕ))) → (left : Option (List ℕ)) → (old new : Sinks) → (status : ℕ) → Type 0
IsCalledStatus words files left old new status = IsUncalled 5 old new status ⊎ IsNewStatus words files left old new status

-- With however many words: of too many no call is made.
pub record IsWordsStatus (words : List (List ℕ)) (files : List (Option (List ℕ))) (left : Option (List ℕ)) (old new : Sinks) (status : ℕ) : Type 0 where
  pub few : length words < 2 ^ 32 → IsCalledStatus words files left old new status
  pub many : 2 ^ 32 ≤ length words → IsUncalled 6 old new status
