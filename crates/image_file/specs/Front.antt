-- What a reader finds at the front of bytes.
use Rattle.std.specs.Prelude.{◌≡◌, ℕ, List, ◌++◌, length, Option, Some, None}
use Rattle.std.specs.List.{flat_map, AllByRecursion}
use Rattle.image_file.specs.Linked.{LinkedContent, IsLinkedFile, IsFile, u4, file_bytes}

-- a value that has such bytes, and the bytes behind it; or no such value stands there
abbrev pub FindsItem : {R X : Type 0} → (R → X × List ℕ) → (X → List ℕ) → (X → Type 0) → List ℕ → Option R → Type 0
FindsItem {R} {X} view spelled Fits bytes (Some found) = Fits (view found).0 × (bytes ≡ spelled (view found).0 ++ (view found).1)
FindsItem {R} {X} view spelled Fits bytes None = (x : X) (rest : List ℕ) → Fits x → bytes ≡ spelled x ++ rest → ⊥

-- all of the bytes are so many files
pub record AreFiles (count : ℕ) (bytes : List ℕ) : Type 0 where
  pub files : List (List ℕ)
  pub number : length files ≡ count
  pub fit : AllByRecursion IsFile files
  pub spelling : bytes ≡ flat_map file_bytes files

-- the name, the bytes of the words and those of the files, as they stand in the file of an image
pub record AreRegions (bytes name words files : List ℕ) : Type 0 where
  pub image : LinkedContent
  pub is : IsLinkedFile bytes image
  pub its_name : name ≡ image.main
  pub its_words : words ≡ flat_map u4 image.words
  pub its_files : files ≡ flat_map file_bytes image.files
