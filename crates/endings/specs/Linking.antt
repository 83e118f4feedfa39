-- What `link` does: the class files of the operands are linked, and the file of their image is put.
use Rattle.std.specs.Prelude.{◌≡◌, ℕ, ◌+◌, ◌<◌, ◌≤◌, ◌==◌, if◌then◌else◌, ◌⊎◌, List, length, take, map}
use Rattle.std.specs.declared.option.Option.{Option}
use Rattle.outside.specs.Outside.{Grew, Rose}
use Rattle.outside.specs.Files.{FilesTold, files_told, OnlyWords, AreFiles, IsTooBigAt, FailsAt}
use Rattle.name_laws.specs.Written.{name_in}
use Rattle.image_file.specs.Linked as file
use Rattle.image_words.specs.Limits.{coded_methods}
use Rattle.jopizer.specs.declared.refusal.LinkRefusal.{LinkRefusal}
use Rattle.jopizer.specs.declared.refusal.LinkRefusal.TheVariants as links
use Rattle.jopizer.specs.Linked.{Parts, IsLinked, image_of}
use Rattle.jopizer.specs.Refused.{IsLinkRefusal}
use Rattle.refusal_lines.specs.Naming.{IsNamedByRefusal}
use Rattle.answer_lines.specs.declared.line.Sizes.{Sizes}
use Rattle.endings.specs.declared.outcome.Refusal.TheVariants.{TooBig}
use Rattle.endings.specs.declared.outcome.Ending.{Ending}
use Rattle.endings.specs.declared.outcome.Ending.TheVariants.{Linked, Refused, NotLinked, ReadFault, WriteFault, NoMemory}
use Rattle.endings.specs.World.{World, IsQuiet, IsUntaken}

-- the name of a class of which the word is written, in which each `.` reads as `/`; none, which is empty, where it is written of no name
abbrev pub slashed : (byte : ℕ) → ℕ
slashed byte = if byte == 46 then 47 else byte

abbrev pub class_name : (word : List ℕ) → List ℕ
class_name word = map slashed (name_in word)

-- ---- the files

abbrev pub files_of : World → FilesTold
files_of w = files_told w.words w.files w.file_faults

-- these are the files of the words from one on, and no other file was asked for
pub record ReadsFiles (first : ℕ) (files : List (List ℕ)) (old new : World) : Type 0 where
  pub only : OnlyWords (files_of old) (files_of new) first old.words
  pub are : AreFiles old.files first old.words files

-- why the files of the words from one up to another weren't read; no word behind the one that is told was asked for
abbrev pub OperandsFault : (first end : ℕ) → (old new : FilesTold) → Ending → Type 0
OperandsFault first end old new (Refused (TooBig operand sum)) = IsTooBigAt old first end operand sum × OnlyWords old new first (operand + 1)
OperandsFault first end old new ReadFault = (operand : ℕ) × FailsAt old new first end operand × OnlyWords old new first (operand + 1)
OperandsFault first end old new NoMemory = OnlyWords old new first end
OperandsFault first end old new ending = ⊥

-- ---- what they are linked to

-- the sizes of what was linked, whose file has these bytes
pub record AreSizes (l : Parts) (bytes : List ℕ) (sizes : Sizes) : Type 0 where
  pub classes : sizes.classes ≡ length l.classes
  pub methods : sizes.methods ≡ coded_methods l.classes
  pub words : sizes.words ≡ length l.laid.words
  pub bytes_are : sizes.bytes ≡ length bytes

-- the files are linked with this main class, and these bytes are the file of their image
pub record AreLinkedTo (files : List (List ℕ)) (main : List ℕ) (bytes : List ℕ) (sizes : Sizes) : Type 0 where
  pub linked : Parts
  pub is_linked : IsLinked linked
  pub its_files : linked.files ≡ files
  pub its_main : linked.main ≡ main
  pub is : file.IsLinkedFile bytes (image_of linked)
  pub sizes_are : AreSizes linked bytes sizes

-- what the line of a refusal names in the files
abbrev pub HasName : (files : List (List ℕ)) → LinkRefusal → (name : List ℕ) → Type 0
HasName files (links.Resolving refusal) name = IsNamedByRefusal files refusal name
HasName files refusal name = Unit {0}

-- this refuses the files first
abbrev pub RefusesFiles : (files : List (List ℕ)) → (main : List ℕ) → LinkRefusal → Type 0
RefusesFiles files main links.NoMemory = ⊥
RefusesFiles files main refusal = IsLinkRefusal files main refusal

-- why the files have no image
abbrev pub LinkFault : (files : List (List ℕ)) → (main : List ℕ) → Ending → Type 0
LinkFault files main (NotLinked refusal name) = RefusesFiles files main refusal × HasName files refusal name.items
LinkFault files main NoMemory = Unit {0}
LinkFault files main ending = ⊥

-- ---- what is put

-- all of the file of their image was put
pub record PutsImage (files : List (List ℕ)) (main : List ℕ) (sizes : Sizes) (old new : Option (List ℕ)) (before now : ℕ) : Type 0 where
  pub bytes : List ℕ
  pub linked : AreLinkedTo files main bytes sizes
  pub put : Grew old new bytes
  pub later : before ≤ now

-- a front of it was put, where out failed
pub record PutsImageFront (files : List (List ℕ)) (main : List ℕ) (old new : Option (List ℕ)) (before now : ℕ) : Type 0 where
  pub bytes : List ℕ
  pub sizes : Sizes
  pub linked : AreLinkedTo files main bytes sizes
  pub count : ℕ
  pub part : count < length bytes
  pub put : Grew old new (take count bytes)
  pub rose : Rose before now

-- how files with this main class end, what out told before and then, and its counts of faults
abbrev pub PutsLinked : (files : List (List ℕ)) → (main : List ℕ) → (old new : Option (List ℕ)) → (before now : ℕ) → Ending → Type 0
PutsLinked files main old new before now (Linked sizes) = PutsImage files main sizes old new before now
PutsLinked files main old new before now WriteFault = PutsImageFront files main old new before now
PutsLinked files main old new before now ending = LinkFault files main ending × (new ≡ old) × (now ≡ before)

-- the files of the words from one on were read, and the file of their image was put, or they aren't linked
pub record LinksRead (main : List ℕ) (first : ℕ) (old new : World) (ending : Ending) : Type 0 where
  pub files : List (List ℕ)
  pub reads : ReadsFiles first files old new
  pub put : PutsLinked files (class_name main) old.out new.out old.out_faults new.out_faults ending
  pub watch : new.watch ≡ old.watch
  pub input : IsUntaken old new

-- How the linking of the files of the words from one on ends, each ending with its cause. A word names the main class.
abbrev pub LinksFiles : (main : List ℕ) → (first : ℕ) → World → World → Ending → Type 0
LinksFiles main first old new ending = (OperandsFault first old.words (files_of old) (files_of new) ending × IsQuiet old new)
    ⊎ LinksRead main first old new ending
