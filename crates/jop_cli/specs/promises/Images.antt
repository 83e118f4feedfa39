-- The image whose bytes a file has.
use Rattle.std.specs.Prelude.{◌≡◌, ℕ, List, []}
use Rattle.image_file.specs.Linked as file
use Rattle.jop_cli.specs.promises.Words.{BareContent, IsBareFile, Grew, Call, Parts, IsLinked, image_of, IsResolved, IsSetting, linked_setting}

-- ---- `run` and `trace`

-- Bytes are those of one bare image.
abbrev pub OneBareImage : Type 0
OneBareImage = (bytes : List ℕ) (a b : BareContent) → IsBareFile bytes a → IsBareFile bytes b → a ≡ b

-- None are those of a linked image and of a bare one.
abbrev pub NoImageIsBoth : Type 0
NoImageIsBoth = (bytes : List ℕ) (l : Parts) (image : BareContent) → file.IsLinkedFile bytes (image_of l) → ¬ IsBareFile bytes image

-- ---- `loops`

-- no line was put of a bare image, which has no classes
pub record HasNoLoop (c : Call) (bytes : List ℕ) : Type 0 where
  pub image : BareContent
  pub bare : IsBareFile bytes image
  pub put : Grew c.old.out c.new.out []

-- Bytes are those of one linked image: calls that are given the same bytes speak of one program.
abbrev pub OneLinkedImage : Type 0
OneLinkedImage =
    (bytes : List ℕ) (a b : Parts) → IsLinked a → IsLinked b → file.IsLinkedFile bytes (image_of a) → file.IsLinkedFile bytes (image_of b) → a ≡ b

-- The bytes are the file of the image of what is linked, whose classes are resolved. There is a machine of each size for the program.
pub record IsOpened (bytes : List ℕ) (l : Parts) : Type 0 where
  pub is_linked : IsLinked l
  pub is_file : file.IsLinkedFile bytes (image_of l)
  pub are_resolved : IsResolved l.classes
  pub setting : (chip memory : ℕ) → IsSetting (linked_setting l.classes chip memory)
