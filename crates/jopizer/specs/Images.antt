-- The files of linked images: what reading one answers.
use Rattle.std.specs.Prelude.{◌≡◌, ℕ, ◌<◌, List, Option, slice_get}
use Rattle.image_file.specs.Linked.{LinkedContent}
use Rattle.image_file.specs.Linked as file
use Rattle.image_words.specs.Regions.{image_words_of}
use Rattle.jopizer.specs.declared.refusal.LinkRefusal.TheVariants as refusals
use Rattle.jopizer.specs.declared.fault.ImageFault.{ImageFault}
use Rattle.jopizer.specs.declared.fault.ImageFault.TheVariants.{Bad, Link, Differs, NoMemory}
use Rattle.jopizer.specs.Linked.{AreLinked}
use Rattle.jopizer.specs.Refused.{IsLinkRefusal}

-- the first place at which two lists have different words, or one has a word and the other has ended
pub record IsDifference (kept linked : List ℕ) (place : ℕ) (mine other : Option ℕ) : Type 0 where
  pub before : (i : ℕ) → i < place → slice_get kept i ≡ slice_get linked i
  pub at_kept : slice_get kept place ≡ mine
  pub at_linked : slice_get linked place ≡ other
  pub differ : ¬ (mine ≡ other)

-- the difference that is told
abbrev pub IsDifferent : (kept linked : List ℕ) → ImageFault → Type 0
IsDifferent kept linked (Differs place mine other) = IsDifference kept linked place mine other
IsDifferent kept linked fault = ⊥

-- what refuses the files is told; or there was no memory
abbrev pub IsUnlinked : (files : List (List ℕ)) (main : List ℕ) → ImageFault → Type 0
IsUnlinked files main (Link refusals.NoMemory) = ⊥
IsUnlinked files main (Link refusal) = IsLinkRefusal files main refusal
IsUnlinked files main NoMemory = Unit {0}
IsUnlinked files main fault = ⊥

-- the files of the image are linked, and this is the first word that the image has otherwise
pub record DiffersFirst (image : LinkedContent) (place : ℕ) (kept linked : Option ℕ) : Type 0 where
  pub classes : List _
  pub are : AreLinked image.files image.main classes
  pub difference : IsDifference image.words (image_words_of classes) place kept linked

-- what is wrong with the image; nothing is said of want of memory
abbrev pub IsWrongIn : LinkedContent → ImageFault → Type 0
IsWrongIn image Bad = ⊥
IsWrongIn image (Link refusals.NoMemory) = ⊥
IsWrongIn image (Link refusal) = IsLinkRefusal image.files image.main refusal
IsWrongIn image (Differs place kept linked) = DiffersFirst image place kept linked
IsWrongIn image NoMemory = Unit {0}

-- the bytes are no file of an image, or of one in which this is wrong
abbrev pub IsWrongImage : (bytes : List ℕ) → ImageFault → Type 0
IsWrongImage bytes Bad = (image : LinkedContent) → ¬ file.IsLinkedFile bytes image
IsWrongImage bytes NoMemory = Unit {0}
IsWrongImage bytes fault = (image : LinkedContent) × file.IsLinkedFile bytes image × IsWrongIn image fault
