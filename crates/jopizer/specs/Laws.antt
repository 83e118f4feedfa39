-- What holds of linked files.
use Rattle.std.specs.Prelude.{◌≡◌, ◌≢◌, ℕ, ◌<◌, List, [], ◌++◌, length, codes, IsSome}
use Rattle.class_pool.specs.declared.class.ClassFile.{ClassFile}
use Rattle.bytecode_model.specs.Program.{body_of}
use Rattle.program_tables.specs.Numbers.{method_text}
use Rattle.program_tables.specs.Resolved.{at_method, resolved}
use Rattle.image_file.specs.Linked as file
use Rattle.jopizer.specs.declared.refusal.LinkRefusal.{LinkRefusal}
use Rattle.jopizer.specs.declared.refusal.LinkRefusal.TheVariants as refusals
use Rattle.jopizer.specs.declared.fault.ImageFault.{ImageFault}
use Rattle.jopizer.specs.declared.fault.ImageFault.TheVariants as faults
use Rattle.jopizer.specs.Linked.{AreLinked, Parts, IsLinked, image_of}
use Rattle.jopizer.specs.Refused.{FailsInFile, IsLinkRefusal}
use Rattle.jopizer.specs.Images.{IsWrongImage}

-- The file of an image is that of one linked program: what is read of the file that was written for what is linked is just that.
abbrev pub OneLinked : Type 0
OneLinked = (bytes : List ℕ) (a b : Parts) → IsLinked a → IsLinked b → file.IsLinkedFile bytes (image_of a) → file.IsLinkedFile bytes (image_of b) → a ≡ b

-- nothing refuses files that are linked to classes
abbrev pub LinkedFilesAreNotRefused : Type 0
LinkedFilesAreNotRefused =
    (files : List (List ℕ)) (main : List ℕ) (cs : List ClassFile) (r : LinkRefusal)
    → AreLinked files main cs → IsLinkRefusal files main r → r ≡ refusals.NoMemory

-- files are refused for one cause, memory apart
abbrev pub RefusalsAreOne : Type 0
RefusalsAreOne =
    (files : List (List ℕ)) (main : List ℕ) (a b : LinkRefusal) → a ≢ refusals.NoMemory → b ≢ refusals.NoMemory → IsLinkRefusal files main a
    → IsLinkRefusal files main b → a ≡ b

-- nothing is wrong with the file of the image of what is linked
abbrev pub LinkedImagesAreRead : Type 0
LinkedImagesAreRead = (bytes : List ℕ) (l : Parts) (f : ImageFault) → IsLinked l → file.IsLinkedFile bytes (image_of l) → IsWrongImage bytes f
    → f ≡ faults.NoMemory

-- a method in which a rule fails is one of a file: none fails in the core classes, nor in the class that is run
abbrev pub MethodsAreOfFiles : Type 0
MethodsAreOfFiles = (files : List (List ℕ)) (main : List ℕ) (file method pc : ℕ) (rule : _) → FailsInFile files main file method pc rule → file < length files

-- the text of the main of a class of this name
abbrev pub main_text : (class : List ℕ) → List ℕ
main_text class = class ++ codes ".main([Ljava/lang/String;)V"

-- classes to which files are linked have the main of the main class, with code
abbrev pub MainIsThere : Type 0
MainIsThere =
    (files : List (List ℕ)) (main : List ℕ) (cs : List ClassFile) → AreLinked files main cs
    → (m : ℕ) × IsSome (body_of (resolved cs) m) × (at_method cs m [] (method_text cs) ≡ main_text main)
