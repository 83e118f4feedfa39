-- What objects in memory are seen as.
use Rattle.std.specs.Prelude.{◌≡◌, ◌≢◌, ◌↔◌, ◌⊎◌, ◌==◌, ℕ, ◌+◌, ◌-◌, ◌^◌, ◌<◌, min, List, [], length, slice_get, Contains, count_by, None, Some, Vec}
use Rattle.std.specs.declared.option.Option.{Option}
use Rattle.std.specs.declared.alloc.Global.{Global}

-- A source: the bytes that are left, the numbers of the calls that are to fail, how many calls there were, and how many of them failed.
pub record SourceState : Type 0 where
  pub left : List ℕ
  pub failing : List ℕ
  pub calls : ℕ
  pub faults : ℕ

-- A sink: the bytes that it holds, for how many bytes it has memory, the numbers of the calls that are to fail, how many calls there were, and how
-- many of them failed.
pub record SinkState : Type 0 where
  pub held : List ℕ
  pub capacity : ℕ
  pub failing : List ℕ
  pub calls : ℕ
  pub faults : ℕ

-- A sink that never fails: the bytes that it holds, if it tells, and for how many bytes it has memory.
pub record SureSinkState : Type 0 where
  pub held : Option (List ℕ)
  pub capacity : ℕ

-- The memory that a sink has doesn't do for a piece behind the bytes that are held: more has to be found.
abbrev pub LacksRoom : List ℕ → ℕ → List ℕ → Type 0
LacksRoom held capacity piece = capacity < length held + length piece

-- The numbers of the calls that are to fail, how many calls there were, and the words of those that failed by their number.
pub record FailingState : Type 0 where
  pub failing : List ℕ
  pub calls : ℕ
  pub failed : List ℕ

-- Files: each word's bytes or none, the numbers of the calls that are to fail, how many calls there were, and the words of those calls that failed by
-- their number.
pub record FilesState : Type 0 where
  pub entries : List (Option (List ℕ))
  pub failing : List ℕ
  pub calls : ℕ
  pub failed : List ℕ

-- the number of the call after this one
abbrev pub next_call : ℕ → ℕ
next_call call = min (call + 1) (2 ^ 64 - 1)

-- the bytes of an entry, if it has any
abbrev pub entry_bytes : Option (Vec ℕ Global) → Option (List ℕ)
entry_bytes None = None
entry_bytes (Some bytes) = Some bytes.items

-- the bytes of an entry, where one without bytes is an empty file
abbrev pub bytes_or_empty : Option (Vec ℕ Global) → List ℕ
bytes_or_empty None = []
bytes_or_empty (Some bytes) = bytes.items

-- The bytes of a word's entry, where the word is there and its entry has any.
abbrev pub entry_told : Option (Option (List ℕ)) → Option (List ℕ)
entry_told None = None
entry_told (Some entry) = entry

-- A word whose entry has bytes has failed as often as its calls did by their numbers. One without bytes counts as failed at all times.
abbrev pub entry_faults : Option (Option (List ℕ)) → ℕ → ℕ
entry_faults None calls = 0
entry_faults (Some None) calls = 2 ^ 64 - 1
entry_faults (Some (Some bytes)) calls = calls

-- how many words the files have
abbrev pub words_of : FilesState → ℕ
words_of files = length files.entries

-- what the files tell of a word
abbrev pub told_of : FilesState → ℕ → Option (List ℕ)
told_of files word = entry_told (slice_get files.entries word)

-- how often calls on a word failed
abbrev pub faults_of : FilesState → ℕ → ℕ
faults_of files word = entry_faults (slice_get files.entries word) (count_by (λ k. k == word) files.failed)

-- The next call fails on a word: its number is listed, or the word's entry has no bytes.
abbrev pub FailsAt : FilesState → ℕ → Type 0
FailsAt files word = Contains files.failing files.calls ⊎ (told_of files word ≡ None)

-- The numbers of the later calls that are to fail stay: only the number of this call may leave the list.
pub record SameLaterCalls (call : ℕ) (old new : List ℕ) : Type 0 where
  pub stay : (k : ℕ) → k ≢ call → Contains new k ↔ Contains old k

-- A call was counted: the next one has the next number.
pub record CountsCall (old new : FilesState) : Type 0 where
  pub calls : new.calls ≡ next_call old.calls
  pub later : SameLaterCalls old.calls old.failing new.failing
