-- How long the file of an image is.
use Rattle.std.proofs.Common.{◌≡◌, ℕ, ◌+◌, ◌*◌, ◌^◌, ◌<◌, ◌≤◌, List, [], ◌∷◌, ◌++◌, length, ap, ◌∙◌, arith}
use Rattle.std.proofs.lemmas.List.{length-append}
use Rattle.std.proofs.lemmas.List.Concat.{flat_map-cons}
use Rattle.std.proofs.lemmas.Grind.{flat_map-append}
use Rattle.std.specs.List.{flat_map, AllByRecursion}
use Rattle.image_file.specs.Linked.{LinkedContent, IsFile, u4, file_bytes}
use Rattle.image_file.proofs.Sequences.{words_long}
use Rattle.jopizer.specs.Linked.{file_length}

pub length_is : (image : LinkedContent) → file_length image ≡ 16 + length image.main + 4 * length image.words + length (flat_map file_bytes image.files)
unfolding file_length
length_is image =
    let files = flat_map file_bytes image.files in
    let words = flat_map u4 image.words in
    omega (arith, length-append words files, words_long image.words, length-append image.main (u4 (length image.words) ++ (u4 (length image.files) ++ (words ++ files))))

-- a file takes four bytes more than it has
file_long : (file : List ℕ) → length (file_bytes file) ≡ 4 + length file
file_long file = omega (arith, length-append (u4 (length file)) file)

pub one_more : (files : List (List ℕ)) (file : List ℕ) → length (flat_map file_bytes (files ++ file ∷ [])) ≡ length (flat_map file_bytes files) + (length file + 4)
one_more files file =
    ap (λ (b : List ℕ). length b) (flat_map-append file_bytes files (file ∷ []))
    ∙ omega (arith, length-append (flat_map file_bytes files) (flat_map file_bytes (file ∷ [])), ap (λ (b : List ℕ). length b) (flat_map-cons file_bytes file []), length-append (file_bytes file) [], file_long file)

-- each file, and their number, are no longer than all together
pub files_short : (limit : ℕ) (files : List (List ℕ)) → length (flat_map file_bytes files) ≤ limit → limit < 2 ^ 32 → AllByRecursion IsFile files
files_short limit [] le lt = tt
files_short limit (file ∷ files) le lt =
    let e = ap (λ (b : List ℕ). length b) (flat_map-cons file_bytes file files) ∙ length-append (file_bytes file) (flat_map file_bytes files) in
    let one = file_long file in
    (omega arith, files_short limit files (omega arith) lt)

pub files_few : (files : List (List ℕ)) → length files ≤ length (flat_map file_bytes files)
files_few [] = omega arith
files_few (file ∷ files) =
    let e = ap (λ (b : List ℕ). length b) (flat_map-cons file_bytes file files) ∙ length-append (file_bytes file) (flat_map file_bytes files) in
    let one = file_long file in
    let more = files_few files in
    omega arith
