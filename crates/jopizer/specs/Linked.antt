-- What files are linked to: JVM Specification SE 8, chapter 5, and the words of the image.
use Rattle.std.specs.Prelude.{◌≡◌, ℕ, ◌≤◌, List, length, None}
use Rattle.class_pool.specs.declared.class.ClassFile.{ClassFile}
use Rattle.image_builder.specs.Laid.{Laid}
use Rattle.image_file.specs.Linked.{LinkedContent, bytes_of}
use Rattle.image_words.specs.Regions.{image_words_of}
use Rattle.image_layout.specs.Layout.{IsLaidOut, first_passed}
use Rattle.program_resolution.specs.Resolving.{IsProgramOf}
use Rattle.bytecode_verifier.specs.Failure.{IsVerified}

-- how many bytes the file of an image has
unfoldable pub file_length : LinkedContent → ℕ
file_length image = length (bytes_of image)

-- and how many it may have
abbrev pub most_image_bytes : ℕ
most_image_bytes = 16777216

-- the image of these classes, with the files of which they came
abbrev pub image_with : (files : List (List ℕ)) (main : List ℕ) → List ClassFile → LinkedContent
image_with files main cs = record { main = main; words = image_words_of cs; files = files }

-- The files are resolved to these classes, no method of them breaks a rule of the verifier, and their image and its file are within their limits.
pub record AreLinked (files : List (List ℕ)) (main : List ℕ) (cs : List ClassFile) : Type 0 where
  pub program : IsProgramOf files main cs
  pub verified : IsVerified cs
  pub within : first_passed cs ≡ None
  pub small : file_length (image_with files main cs) ≤ most_image_bytes

-- classes, their image, and the files and the bytes of the main class's name of which they came
pub record Parts : Type 0 where
  pub classes : List ClassFile
  pub laid : Laid
  pub files : List (List ℕ)
  pub main : List ℕ

-- they belong together
pub record IsLinked (l : Parts) : Type 0 where
  pub linked : AreLinked l.files l.main l.classes
  pub laid : IsLaidOut l.classes l.laid

-- the image that its file holds
abbrev pub image_of : Parts → LinkedContent
image_of l = record { main = l.main; words = l.laid.words; files = l.files }
