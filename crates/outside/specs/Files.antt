-- The files of a command's operands, which are words one after another.
use Rattle.std.specs.Prelude.{◌≡◌, ℕ, ◌+◌, ◌-◌, ◌<◌, ◌≤◌, List, length, slice_index_or, sum_by, [], map, Vec}
use Rattle.std.specs.declared.option.Option.{Option}
use Rattle.std.specs.declared.alloc.Global.{Global}
use Rattle.outside.specs.Outside.{Rose, IsWhole, HasFileLength}
use Rattle.outside.specs.declared.operands.FilesFault.{FilesFault}
use Rattle.outside.specs.declared.operands.FilesFault.TheVariants.{TooBig, ReadFault, NoMemory}

-- How many words there are, what is told of each word's file, and how many calls on it failed.
pub record FilesTold : Type 0 where
  pub words : ℕ
  pub told : ℕ → Option (List ℕ)
  pub faults : ℕ → ℕ

abbrev pub files_told : ℕ → (ℕ → Option (List ℕ)) → (ℕ → ℕ) → FilesTold
files_told words told faults = record { words = words; told = told; faults = faults }

-- There were calls on the words from one up to another at most: the number of words and all contents are as they were, and so are the counts of all other
-- words. No count fell.
pub record OnlyWords (old new : FilesTold) (first end : ℕ) : Type 0 where
  pub same_words : new.words ≡ old.words
  pub contents : (k : ℕ) → new.told k ≡ old.told k
  pub counts : (k : ℕ) → (first ≤ k → k < end → ⊥) → new.faults k ≡ old.faults k
  pub later : (k : ℕ) → old.faults k ≤ new.faults k

-- the most bytes that the files of a command have together
abbrev pub most_bytes : ℕ
most_bytes = 16777216

-- These are the bytes of the files of the words from one up to another, in the order of the words, and aren't too many together.
pub record AreFiles (told : ℕ → Option (List ℕ)) (first end : ℕ) (files : List (List ℕ)) : Type 0 where
  pub many : first + length files ≡ end
  pub whole : (k : ℕ) → k < length files → IsWhole (told (first + k)) (slice_index_or files k [])
  pub few : sum_by length files ≤ most_bytes

-- The files of the words up to an operand were read, and with this operand's they are too long together.
pub record IsTooBigAt (old : FilesTold) (first end operand sum : ℕ) : Type 0 where
  pub below : operand < end
  pub before : List (List ℕ)
  pub read : AreFiles old.told first operand before
  pub bytes : ℕ
  pub length_is : HasFileLength (old.told operand) bytes
  pub sum_is : sum ≡ sum_by length before + bytes
  pub past : most_bytes < sum

-- The files of the words up to an operand were read, and a call on this operand's failed.
pub record FailsAt (old new : FilesTold) (first end operand : ℕ) : Type 0 where
  pub below : operand < end
  pub before : List (List ℕ)
  pub read : AreFiles old.told first operand before
  pub rose : Rose (old.faults operand) (new.faults operand)

-- why the files of the words from one up to another weren't read; no word behind the one that is told was asked for
abbrev pub IsFilesCause : (old new : FilesTold) → (first end : ℕ) → FilesFault → Type 0
IsFilesCause old new first end (TooBig operand sum) = IsTooBigAt old first end operand sum × OnlyWords old new first (operand + 1)
IsFilesCause old new first end (ReadFault operand) = FailsAt old new first end operand × OnlyWords old new first (operand + 1)
IsFilesCause old new first end NoMemory = OnlyWords old new first end

-- the bytes of each
abbrev pub contents : List (Vec ℕ Global) → List (List ℕ)
contents files = map (λ file. file.items) files

-- why the file of a word wasn't read, where so many bytes were left of the most
abbrev pub FileCause : (old new : FilesTold) → (word left : ℕ) → FilesFault → Type 0
FileCause old new word left (TooBig operand sum) = (operand ≡ word) × (n : ℕ) × HasFileLength (old.told word) n × (sum ≡ most_bytes - left + n) × (left < n)
FileCause old new word left (ReadFault operand) = (operand ≡ word) × Rose (old.faults word) (new.faults word)
FileCause old new word left NoMemory = Unit {0}
