-- Files, and the program that they are or what refuses them first.
use Rattle.std.specs.Prelude.{◌≡◌, ℕ, ◌⊎◌, List, [], ◌∷◌, take, Some, slice_get}
use Rattle.class_pool.specs.declared.class.ClassFile.{ClassFile}
use Rattle.class_rules.specs.Grammar.{IsClassOf}
use Rattle.class_file.specs.Grammar.{IsOtherVersion}
use Rattle.lists.specs.Lists.{first}
use Rattle.program_resolution.specs.declared.refusal.ProgramRefusal.{ProgramRefusal}
use Rattle.program_resolution.specs.declared.refusal.ProgramRefusal.TheVariants as answers
use Rattle.program_resolution.specs.Linked.{linked_classes}
use Rattle.program_resolution.specs.Refusals.{refusals}

-- the files' bytes are these class files, one by one (4.1)
abbrev pub AreClassesOf : (files : List (List ℕ)) → List ClassFile → Type 0
AreClassesOf [] [] = Unit {0}
AreClassesOf [] (k ∷ ks) = ⊥
AreClassesOf (bytes ∷ files) [] = ⊥
AreClassesOf (bytes ∷ files) (k ∷ ks) = IsClassOf bytes k × AreClassesOf files ks

-- the bytes of a file are those of no class file: its header is of another version, or that isn't the reason
abbrev pub IsUnread : (file : ℕ) → (bytes : List ℕ) → ProgramRefusal → Type 0
IsUnread file bytes (answers.BadClass f) = (f ≡ file) × ((k : ClassFile) → IsClassOf bytes k → ⊥) × ((major : ℕ) → IsOtherVersion bytes major → ⊥)
IsUnread file bytes (answers.UnsupportedVersion f major) = (f ≡ file) × IsOtherVersion bytes major
IsUnread file bytes refusal = ⊥

-- the file isn't read, or there was no memory
abbrev pub IsUnreadOr : (file : ℕ) → (bytes : List ℕ) → ProgramRefusal → Type 0
IsUnreadOr file bytes answers.NoMemory = Unit {0}
IsUnreadOr file bytes refusal = IsUnread file bytes refusal

-- the first file that isn't read
pub record IsFirstUnread (files : List (List ℕ)) (refusal : ProgramRefusal) : Type 0 where
  pub file : ℕ
  pub before : List ClassFile
  pub read : AreClassesOf (take file files) before
  pub bytes : List ℕ
  pub there : slice_get files file ≡ Some bytes
  pub unread : IsUnread file bytes refusal

-- some file is the first that isn't read, or there was no memory
abbrev pub IsUnreadAmong : (files : List (List ℕ)) → ProgramRefusal → Type 0
IsUnreadAmong files answers.NoMemory = Unit {0}
IsUnreadAmong files refusal = IsFirstUnread files refusal

-- the first of what refuses the class files that were read
pub record IsFirstOfRead (files : List (List ℕ)) (main : List ℕ) (refusal : ProgramRefusal) : Type 0 where
  pub classes : List ClassFile
  pub read : AreClassesOf files classes
  pub first : first (refusals classes main) ≡ Some refusal

-- what refuses the files first; nothing is said of want of memory
abbrev pub IsFirstRefusal : (files : List (List ℕ)) (main : List ℕ) → ProgramRefusal → Type 0
IsFirstRefusal files main answers.NoMemory = Unit {0}
IsFirstRefusal files main refusal = IsFirstUnread files refusal ⊎ IsFirstOfRead files main refusal

-- nothing refuses the files, and their classes are these
pub record IsProgramOf (files : List (List ℕ)) (main : List ℕ) (cs : List ClassFile) : Type 0 where
  pub classes : List ClassFile
  pub read : AreClassesOf files classes
  pub none : refusals classes main ≡ []
  pub program : cs ≡ linked_classes classes main
