-- Why files aren't linked, in the order in which it is tried: what resolving refuses, the verifier, the limits of the image and of its file.
use Rattle.std.specs.Prelude.{◌≡◌, ℕ, ◌<◌, ◌++◌, List, Some, None, slice_get}
use Rattle.class_pool.specs.declared.class.ClassFile.{ClassFile}
use Rattle.core_classes.specs.Core.{core}
use Rattle.program_tables.specs.Numbers.{methods_by_number}
use Rattle.image_file.specs.Linked.{LinkedContent}
use Rattle.image_layout.specs.Layout.{first_passed}
use Rattle.program_resolution.specs.Resolving.{IsFirstRefusal, IsProgramOf}
use Rattle.program_resolution.specs.declared.refusal.ProgramRefusal.TheVariants as resolving
use Rattle.program_resolution.specs.Linked.{number_of}
use Rattle.bytecode_verifier.specs.Failure.{IsVerified, FailsFirst, broken_seen}
use Rattle.jopizer.specs.declared.refusal.LinkRefusal.{LinkRefusal}
use Rattle.jopizer.specs.declared.refusal.LinkRefusal.TheVariants.{Resolving, NotVerified, TooLarge, FileTooLarge, NoMemory}
use Rattle.jopizer.specs.Linked.{file_length, most_image_bytes, image_with}

-- the files are resolved, and the first method in which a rule fails is this one of this file, counted as it stands there
pub record FailsInFile (files : List (List ℕ)) (main : List ℕ) (file method pc : ℕ) (rule : _) : Type 0 where
  pub classes : List ClassFile
  pub program : IsProgramOf files main classes
  pub number : ℕ
  pub fails : FailsFirst classes number pc (broken_seen rule)
  pub place : slice_get (methods_by_number classes) number ≡ Some (number_of file, method)

-- the files are resolved and verified, and this limit is the first that their image passes
pub record PassesLimit (files : List (List ℕ)) (main : List ℕ) (what : _) (count limit : ℕ) : Type 0 where
  pub classes : List ClassFile
  pub program : IsProgramOf files main classes
  pub verified : IsVerified classes
  pub passed : first_passed classes ≡ Some (what, count, limit)

-- the file of this image has so many bytes, past the limit
pub record FilePassesLimit (image : LinkedContent) (count limit : ℕ) : Type 0 where
  pub counted : count ≡ file_length image
  pub limited : limit ≡ most_image_bytes
  pub passed : most_image_bytes < count

-- the files are resolved and verified, their image is within its limits, and its file isn't
pub record FileIsTooLong (files : List (List ℕ)) (main : List ℕ) (count limit : ℕ) : Type 0 where
  pub classes : List ClassFile
  pub program : IsProgramOf files main classes
  pub verified : IsVerified classes
  pub within : first_passed classes ≡ None
  pub long : FilePassesLimit (image_with files main classes) count limit

-- what refuses the files first; nothing is said of want of memory
abbrev pub IsLinkRefusal : (files : List (List ℕ)) (main : List ℕ) → LinkRefusal → Type 0
IsLinkRefusal files main (Resolving resolving.NoMemory) = ⊥
IsLinkRefusal files main (Resolving refusal) = IsFirstRefusal files main refusal
IsLinkRefusal files main (NotVerified file method pc rule) = FailsInFile files main file method pc rule
IsLinkRefusal files main (TooLarge what count limit) = PassesLimit files main what count limit
IsLinkRefusal files main (FileTooLarge count limit) = FileIsTooLong files main count limit
IsLinkRefusal files main NoMemory = Unit {0}

-- ---- by steps, of a program that is resolved

-- the core classes come first
pub record BeginsWithCore (cs : List ClassFile) : Type 0 where
  pub others : List ClassFile
  pub classes : cs ≡ core ++ others

-- a rule fails first there, in a file; or there was no memory
abbrev pub IsUnverified : List ClassFile → LinkRefusal → Type 0
IsUnverified cs (NotVerified file method pc rule) = (number : ℕ) × FailsFirst cs number pc (broken_seen rule)
    × (slice_get (methods_by_number cs) number ≡ Some (number_of file, method))
IsUnverified cs NoMemory = Unit {0}
IsUnverified cs refusal = ⊥

-- the image passes this limit first; or there was no memory
abbrev pub CountIsTooLarge : List ClassFile → LinkRefusal → Type 0
CountIsTooLarge cs (TooLarge what count limit) = first_passed cs ≡ Some (what, count, limit)
CountIsTooLarge cs NoMemory = Unit {0}
CountIsTooLarge cs refusal = ⊥

-- the file of this image is too long; or there was no memory
abbrev pub IsTooLongOr : LinkedContent → LinkRefusal → Type 0
IsTooLongOr image (FileTooLarge count limit) = FilePassesLimit image count limit
IsTooLongOr image NoMemory = Unit {0}
IsTooLongOr image refusal = ⊥
