-- What the outside tells before and after a command.
use Rattle.std.specs.Prelude.{◌≡◌, ℕ, ◌<◌, ◌≤◌, List, length}
use Rattle.std.specs.declared.option.Option.{Option}
use Rattle.outside.specs.Outside.{OnlyWord, IsWhole, HasFileLength}
use Rattle.device_traits.specs.declared.seen.Seen.{Seen}

-- what is told of files, the input, out and the watch, and the counts of faults of files, the input and out
pub record World : Type 0 where
  pub words : ℕ
  pub files : ℕ → Option (List ℕ)
  pub file_faults : ℕ → ℕ
  pub left : Option (List ℕ)
  pub read_faults : ℕ
  pub out : Option (List ℕ)
  pub out_faults : ℕ
  pub watch : Option (List Seen)

abbrev pub world : ℕ → (ℕ → Option (List ℕ)) → (ℕ → ℕ) → Option (List ℕ) → ℕ → Option (List ℕ) → ℕ → Option (List Seen) → World
world words files file_faults left read_faults out out_faults watch =
    record {
      words = words;
      files = files;
      file_faults = file_faults;
      left = left;
      read_faults = read_faults;
      out = out;
      out_faults = out_faults;
      watch
          = watch;
    }

-- the input is as it was
pub record IsUntaken (old new : World) : Type 0 where
  pub left : new.left ≡ old.left
  pub read_faults : new.read_faults ≡ old.read_faults

-- the input, out and the watch are as they were
pub record IsQuiet (old new : World) : Type 0 where
  pub input : IsUntaken old new
  pub out : new.out ≡ old.out
  pub out_faults : new.out_faults ≡ old.out_faults
  pub watch : new.watch ≡ old.watch

-- no contents and no count of a file changed, but for the count of the file of a word, which didn't fall
pub record FilesStayBut (word : ℕ) (old new : World) : Type 0 where
  pub rest : OnlyWord old.words new.words old.files new.files old.file_faults new.file_faults word
  pub later : old.file_faults word ≤ new.file_faults word

-- nothing changed
pub record IsUnchanged (old new : World) : Type 0 where
  pub words : new.words ≡ old.words
  pub contents : (k : ℕ) → new.files k ≡ old.files k
  pub counts : (k : ℕ) → new.file_faults k ≡ old.file_faults k
  pub quiet : IsQuiet old new

-- ---- a file

-- of the files no more than the count of this word's changed, and these are the file's bytes
pub record Reads (word : ℕ) (bytes : List ℕ) (old new : World) : Type 0 where
  pub files : FilesStayBut word old new
  pub whole : IsWhole (old.files word) bytes
  pub short : length bytes ≤ 16777216

-- the file of a word is too long, and this word and its length were told
pub record IsTooBig (word : ℕ) (old new : World) (operand sum : ℕ) : Type 0 where
  pub files : FilesStayBut word old new
  pub operand_is : operand ≡ word
  pub long : 16777216 < sum
  pub length_is : HasFileLength (old.files word) sum
