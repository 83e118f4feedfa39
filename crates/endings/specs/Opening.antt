-- An image is opened: what the bytes of its file are.
use Rattle.std.specs.Prelude.{◌≡◌, true, false, ◌⊎◌, List, ℕ}
use Rattle.image_file.specs.Bare.{IsBareFile, BareContent}
use Rattle.image_file.specs.Linked as file
use Rattle.jopizer.specs.Linked.{IsLinked, image_of}
use Rattle.endings.specs.declared.image.Image.{Image}
use Rattle.endings.specs.declared.image.Image.TheVariants.{Bare, Linked}
use Rattle.endings.specs.declared.outcome.Ending.{Ending}
use Rattle.endings.specs.Phase.{is_linked}
use Rattle.endings.specs.declared.outcome.Refusal.TheVariants.{BadImage, Differs}
use Rattle.endings.specs.declared.outcome.Ending.TheVariants.{Refused, NoMemory, NotLinked}
use Rattle.image_file.specs.Linked.{LinkedContent}
use Rattle.jopizer.specs.Images.{DiffersFirst}
use Rattle.endings.specs.Linking.{RefusesFiles, HasName}

-- why the bytes weren't run
abbrev pub ImageFault : List ℕ → Ending → Type 0
ImageFault bytes (Refused BadImage) = (image : BareContent) → IsBareFile bytes image → ⊥
ImageFault bytes NoMemory = Unit {0}
ImageFault bytes ending = ⊥

-- why the bytes are no image that can be run
abbrev pub BytesFault : (bytes : List ℕ) → Ending → Type 0
BytesFault bytes (Refused BadImage) = (image : LinkedContent) → ¬ file.IsLinkedFile bytes image
BytesFault bytes (Refused (Differs word kept linked)) = (image : LinkedContent) × file.IsLinkedFile bytes image × DiffersFirst image word kept linked
BytesFault bytes (NotLinked refusal name) = (image : LinkedContent) × file.IsLinkedFile bytes image × RefusesFiles image.files image.main refusal
    × HasName image.files refusal name.items
BytesFault bytes NoMemory = Unit {0}
BytesFault bytes ending = ⊥

-- the bytes are those of this image
abbrev pub Opens : (bytes : List ℕ) → Image → Type 0
Opens bytes (Bare image) = (is_linked bytes ≡ false) × IsBareFile bytes image
Opens bytes (Linked linked) = (is_linked bytes ≡ true) × IsLinked linked × file.IsLinkedFile bytes (image_of linked)

-- why they are of none
abbrev pub OpenFault : (bytes : List ℕ) → Ending → Type 0
OpenFault bytes ending = ((is_linked bytes ≡ true) × BytesFault bytes ending) ⊎ ((is_linked bytes ≡ false) × ImageFault bytes ending)
