-- The file of a linked image.
use Rattle.std.specs.Prelude.{◌≡◌, ℕ, ◌<◌, ◌^◌, List, ◌++◌, length, map, codes}
use Rattle.std.specs.Global.{Vec}
use Rattle.std.specs.List.{flat_map, AllByRecursion}
use Rattle.std.specs.Int.{w16, w32, to_be_bytes}

-- what a linked image holds: the bytes of its main class's name, its words, and the bytes of each class file that was linked
pub record LinkedContent : Type 0 where
  pub main : List ℕ
  pub words : List ℕ
  pub files : List (List ℕ)

-- numbers of 16 and of 32 bits
abbrev pub IsHalfWord : ℕ → Type 0
IsHalfWord n = n < 2 ^ 16

abbrev pub IsWord : ℕ → Type 0
IsWord n = n < 2 ^ 32

-- the bytes of such a number, the highest one first
abbrev pub u2 : ℕ → List ℕ
u2 n = to_be_bytes w16 n

abbrev pub u4 : ℕ → List ℕ
u4 n = to_be_bytes w32 n

-- a name has a length of 16 bits and a file one of 32 bits
abbrev pub IsName : List ℕ → Type 0
IsName name = IsHalfWord (length name)

abbrev pub IsFile : List ℕ → Type 0
IsFile file = IsWord (length file)

-- the length, and the bytes
abbrev pub name_bytes : List ℕ → List ℕ
name_bytes name = u2 (length name) ++ name

abbrev pub file_bytes : List ℕ → List ℕ
file_bytes file = u4 (length file) ++ file

-- the lengths and the numbers of an image fit their bytes
pub record IsLinkedContent (image : LinkedContent) : Type 0 where
  pub name : IsName image.main
  pub word_count : IsWord (length image.words)
  pub words : AllByRecursion IsWord image.words
  pub file_count : IsWord (length image.files)
  pub files : AllByRecursion IsFile image.files

-- the mark, the version, the name of the main class, the number of words, the number of files, the words, and the files
abbrev pub bytes_of : LinkedContent → List ℕ
bytes_of image =
    codes "JOPI" ++ (u2 1 ++ (name_bytes image.main ++ (u4 (length image.words)
    ++ (u4 (length image.files) ++ (flat_map u4 image.words ++ flat_map file_bytes image.files)))))

-- these bytes are the file of that image
pub record IsLinkedFile (bytes : List ℕ) (image : LinkedContent) : Type 0 where
  pub grammar : IsLinkedContent image
  pub spelling : bytes ≡ bytes_of image

-- a file is that of one image
abbrev pub OneImage : Type 0
OneImage = (bytes : List ℕ) (a b : LinkedContent) → IsLinkedFile bytes a → IsLinkedFile bytes b → a ≡ b

-- the bytes of each file
abbrev pub contents : List (Vec ℕ) → List (List ℕ)
contents files = map (λ file. file.items) files
