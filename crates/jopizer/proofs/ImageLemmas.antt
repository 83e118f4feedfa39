-- What was linked fits the file of its image, and what is told of a file that was read.
use Rattle.std.proofs.Common.{◌≡◌, ℕ, ◌≤◌, List, length, sym, ap, ◌∙◌, subst, arith}
use Rattle.std.specs.Prelude.{Result, Ok, Err, IfErr}
use Rattle.std.specs.List.{flat_map, AllByRecursion}
use Rattle.image_file.specs.Linked.{LinkedContent, IsWord, IsName, IsFile, file_bytes}
use Rattle.image_file.specs.Linked as file
use Rattle.jopizer.specs.declared.fault.ImageFault.{ImageFault}
use Rattle.jopizer.specs.declared.fault.ImageFault.TheVariants as faults
use Rattle.jopizer.specs.Linked.{file_length, most_image_bytes, image_with, Parts, IsLinked, image_of}
use Rattle.jopizer.specs.Images.{IsWrongIn, IsWrongImage}
use Rattle.jopizer.proofs.LengthLemmas.{length_is, files_short, files_few}
use Rattle.jopizer.proofs.NameLemmas.{main_is_short}

-- ---- what was linked fits

image_is : (l : Parts) → IsLinked l → image_of l ≡ image_with l.files l.main l.classes
image_is l is = ap (λ (words : List ℕ). let image : LinkedContent = record { main = l.main; words = words; files = l.files } in image) is.laid.words

pub record FitsFile (l : Parts) : Type 0 where
  pub name : IsName l.main
  pub words : IsWord (length l.laid.words)
  pub count : IsWord (length l.files)
  pub files : AllByRecursion IsFile l.files

fits_by : (image : LinkedContent) → file_length image ≤ most_image_bytes → IsWord (length image.words) × IsWord (length image.files) × AllByRecursion IsFile image.files
fits_by image small =
    let long = length_is image in
    let few = files_few image.files in
    let short : length (flat_map file_bytes image.files) ≤ 16777216 = omega arith in
    (omega arith, omega arith, files_short 16777216 image.files short (omega arith))

pub fits : (l : Parts) → IsLinked l → FitsFile l
fits l is =
    let by = fits_by (image_of l) (subst (λ (image : LinkedContent). file_length image ≤ most_image_bytes) (sym (image_is l is)) is.linked.small) in
    record { name = main_is_short l.files l.main l.classes is.linked.program; words = by.0; count = by.1; files = by.2 }

-- ---- what is told of a file

is_wrong : (bytes : List ℕ) (image : LinkedContent) (f : ImageFault) → file.IsLinkedFile bytes image → IsWrongIn image f → IsWrongImage bytes f
is_wrong bytes image faults.Bad is h = absurd h
is_wrong bytes image (faults.Link r) is h = (image, is, h)
is_wrong bytes image (faults.Differs place kept linked) is h = (image, is, h)
is_wrong bytes image faults.NoMemory is h = tt

pub all_wrong : {X : Type 0} (bytes : List ℕ) (image : LinkedContent) (r : Result X ImageFault) → file.IsLinkedFile bytes image → IfErr r (IsWrongIn image) → IfErr r (IsWrongImage bytes)
all_wrong bytes image (Ok x) is h = h
all_wrong bytes image (Err f) is h = is_wrong bytes image f is h

-- ---- the parts of an image

abbrev made : List ℕ → List ℕ → List (List ℕ) → LinkedContent
made main words files = record { main = main; words = words; files = files }

pub made_same : {m n v w : List ℕ} {f g : List (List ℕ)} → m ≡ n → v ≡ w → f ≡ g → made m v f ≡ made n w g
made_same {m} {n} {v} {w} {f} {g} main words files = ap (λ (x : List ℕ). made x v f) main ∙ (ap (λ (x : List ℕ). made n x f) words ∙ ap (λ (x : List (List ℕ)). made n w x) files)
