-- What the adapters over real files and streams are seen as, and what the system below them tells.
use Rattle.std.specs.Prelude.{◌≡◌, ℕ, List, drop, slice_get, ⊤, None, Some, IsSome}
use Rattle.std.specs.Fs.{IsFile, file_type, metadata_len}
use Rattle.std.specs.declared.fs.attrs.Metadata.{Metadata}
use Rattle.std.specs.declared.option.Option.{Option}
use Rattle.outside.specs.Outside.{HasFileLength}
use Rattle.outside.specs.Memory.{entry_told}

-- A stream: its bytes, where they are known, and how many calls failed. The bytes of a writer are those that it holds, the bytes of a reader are
-- those that it has left.
pub record StreamState : Type 0 where
  pub bytes : Option (List ℕ)
  pub faults : ℕ

-- The files of some words: each word's bytes, the bytes of the file that it names, where they are told, and how many calls on it failed.
pub record NamedState : Type 0 where
  pub names : List (List ℕ)
  pub told : List (Option (List ℕ))
  pub faults : List ℕ

-- what is told of a word, where it is there
abbrev pub told_at : List (Option (List ℕ)) → ℕ → Option (List ℕ)
told_at told word = entry_told (slice_get told word)

-- An open file has these bytes, knows its place, and is read from its place on.
pub record Has {F : Type 0} (position : F → Option ℕ) (all left : F → Option (List ℕ)) (bytes : List ℕ) (file : F) : Type 0 where
  pub same : all file ≡ Some bytes
  pub placed : IsSome (position file)
  pub read_on : (f : F) (xs : List ℕ) (place : ℕ) → all f ≡ Some xs → position f ≡ Some place → left f ≡ Some (drop place xs)

-- Where the bytes are told, the open file has them.
abbrev pub HasTold : {F : Type 0} → (position : F → Option ℕ) → (all left : F → Option (List ℕ)) → Option (List ℕ) → F → Type 0
HasTold position all left None file = ⊤
HasTold position all left (Some bytes) file = Has position all left bytes file

-- Where the bytes are told, and the metadata is that of a regular file, it has their number.
abbrev pub CountsFile : Option (List ℕ) → Metadata → Type 0
CountsFile told metadata = IsFile (file_type metadata) → HasFileLength told (metadata_len metadata)
