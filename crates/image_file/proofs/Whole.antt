-- The parts of a file, one behind the other, and that no other image has the same.
use Rattle.std.proofs.Common.{◌≡◌, ℕ, ◌*◌, ◌<◌, List, [], ◌∷◌, ◌++◌, length, refl, sym, ap, subst, ◌∙◌, append_assoc, arith}
use Rattle.std.proofs.lemmas.List.{length-append, append_cancel_left}
use Rattle.std.specs.List.{flat_map, IsSplitAt}
use Rattle.image_file.specs.Linked.{LinkedContent, IsWord, IsName, IsFile, u2, u4, name_bytes, file_bytes, bytes_of, IsLinkedFile, OneImage}
use Rattle.image_file.specs.Front.{AreFiles, AreRegions}
use Rattle.image_file.proofs.Numbers.{IsBytes, IsBytes-behind, IsBytes-front, same_front, split_parts, u4_unique, name_unique, file_unique}
use Rattle.image_file.proofs.Sequences.{IsAbsent, none_behind, words_long, words_there}

abbrev pub mark : List ℕ
mark = 74 ∷ 79 ∷ 80 ∷ 73 ∷ 0 ∷ 1 ∷ []

-- what stands behind the number of files, behind the number of words, behind the name, and behind the mark
abbrev behind_numbers : LinkedContent → List ℕ
behind_numbers image = flat_map u4 image.words ++ flat_map file_bytes image.files

abbrev behind_count : LinkedContent → List ℕ
behind_count image = u4 (length image.files) ++ behind_numbers image

abbrev behind_name : LinkedContent → List ℕ
behind_name image = u4 (length image.words) ++ behind_count image

abbrev behind_mark : LinkedContent → List ℕ
behind_mark image = name_bytes image.main ++ behind_name image

-- the parts that were read, each behind the one before it
pub record IsNamed (bytes name rest : List ℕ) : Type 0 where
  pub fits : IsName name
  pub spelling : bytes ≡ mark ++ (name_bytes name ++ rest)

pub record IsCounted (bytes name : List ℕ) (words : ℕ) (rest : List ℕ) : Type 0 where
  pub named : IsNamed bytes name (u4 words ++ rest)
  pub fits : IsWord words

pub record IsHeaded (bytes name : List ℕ) (words files : ℕ) (rest : List ℕ) : Type 0 where
  pub counted : IsCounted bytes name words (u4 files ++ rest)
  pub fits : IsWord files

-- ---- what the parts are in an image whose file the bytes are

named_is : (bytes name rest : List ℕ) (image : LinkedContent) → IsNamed bytes name rest → IsLinkedFile bytes image → (name ≡ image.main) × (rest ≡ behind_name image)
named_is bytes name rest image named is =
    name_unique name image.main rest (behind_name image) named.fits is.grammar.name (append_cancel_left mark (name_bytes name ++ rest) (behind_mark image) (sym named.spelling ∙ is.spelling))

counted_is : (bytes name : List ℕ) (words : ℕ) (rest : List ℕ) (image : LinkedContent) → IsCounted bytes name words rest → IsLinkedFile bytes image → (words ≡ length image.words) × (rest ≡ behind_count image)
counted_is bytes name words rest image counted is =
    u4_unique words (length image.words) rest (behind_count image) counted.fits is.grammar.word_count (named_is bytes name (u4 words ++ rest) image counted.named is).1

headed_is : (bytes name : List ℕ) (words files : ℕ) (rest : List ℕ) (image : LinkedContent) → IsHeaded bytes name words files rest → IsLinkedFile bytes image → (files ≡ length image.files) × (rest ≡ behind_numbers image)
headed_is bytes name words files rest image headed is =
    u4_unique files (length image.files) rest (behind_numbers image) headed.fits is.grammar.file_count (counted_is bytes name words (u4 files ++ rest) image headed.counted is).1

-- ---- where a part is missing there is no image

pub no_mark : (bytes : List ℕ) → ((rest : List ℕ) → bytes ≡ mark ++ rest → ⊥) → (image : LinkedContent) → IsLinkedFile bytes image → ⊥
no_mark bytes none image is = none (behind_mark image) is.spelling

pub no_name : (bytes rest : List ℕ) → bytes ≡ mark ++ rest → IsAbsent name_bytes IsName rest → (image : LinkedContent) → IsLinkedFile bytes image → ⊥
no_name bytes rest marked none image is =
    none image.main (behind_name image) is.grammar.name (append_cancel_left mark rest (behind_mark image) (sym marked ∙ is.spelling))

pub no_word_count : (bytes name rest : List ℕ) → IsNamed bytes name rest → IsAbsent u4 IsWord rest → (image : LinkedContent) → IsLinkedFile bytes image → ⊥
no_word_count bytes name rest named none image is =
    none (length image.words) (behind_count image) is.grammar.word_count (named_is bytes name rest image named is).1

pub no_file_count : (bytes name : List ℕ) (words : ℕ) (rest : List ℕ) → IsCounted bytes name words rest → IsAbsent u4 IsWord rest → (image : LinkedContent) → IsLinkedFile bytes image → ⊥
no_file_count bytes name words rest counted none image is =
    none (length image.files) (behind_numbers image) is.grammar.file_count (counted_is bytes name words rest image counted is).1

pub no_words : (bytes name : List ℕ) (words files : ℕ) (rest : List ℕ) → IsHeaded bytes name words files rest → length rest < 4 * words → (image : LinkedContent) → IsLinkedFile bytes image → ⊥
no_words bytes name words files rest headed short image is =
    let count = (counted_is bytes name words (u4 files ++ rest) image headed.counted is).0 in
    let parts = (headed_is bytes name words files rest image headed is).1 in
    absurd (omega (arith, ap (λ (b : List ℕ). length b) parts, length-append (flat_map u4 image.words) (flat_map file_bytes image.files), words_long image.words, count))

pub no_files : (bytes name : List ℕ) (words files : ℕ) (rest front back : List ℕ) → IsHeaded bytes name words files rest → IsSplitAt rest (4 * words) front back → (AreFiles files back → ⊥)
    → (image : LinkedContent) → IsLinkedFile bytes image → ⊥
no_files bytes name words files rest front back headed split none image is =
    let count = (counted_is bytes name words (u4 files ++ rest) image headed.counted is).0 in
    let parts = headed_is bytes name words files rest image headed is in
    let long : length front ≡ length (flat_map u4 image.words) = omega (arith, split.3, words_long image.words, count) in
    let both = same_front front (flat_map u4 image.words) back (flat_map file_bytes image.files) long (sym (split_parts rest (4 * words) front back split) ∙ parts.1) in
    none (record { files = image.files; number = sym parts.0; fit = is.grammar.files; spelling = both.1 })

-- ---- where all are there, there is one

pub marked_name : (bytes rest name after : List ℕ) → bytes ≡ mark ++ rest → IsName name × (rest ≡ name_bytes name ++ after) → IsNamed bytes name after
marked_name bytes rest name after marked found = record { fits = found.0; spelling = marked ∙ ap (λ (t : List ℕ). mark ++ t) found.1 }

pub named_count : (bytes name rest : List ℕ) (words : ℕ) (after : List ℕ) → IsNamed bytes name rest → IsWord words × (rest ≡ u4 words ++ after) → IsCounted bytes name words after
named_count bytes name rest words after named found = record { named = subst (IsNamed bytes name) found.1 named; fits = found.0 }

pub counted_head : (bytes name : List ℕ) (words : ℕ) (rest : List ℕ) (files : ℕ) (after : List ℕ) → IsCounted bytes name words rest → IsWord files × (rest ≡ u4 files ++ after) → IsHeaded bytes name words files after
counted_head bytes name words rest files after counted found = record { counted = subst (IsCounted bytes name words) found.1 counted; fits = found.0 }

pub all_there : (bytes name : List ℕ) (words files : ℕ) (rest front back : List ℕ) → IsBytes bytes → IsHeaded bytes name words files rest → IsSplitAt rest (4 * words) front back → AreFiles files back
    → AreRegions bytes name front back
all_there bytes name words files rest front back small headed split all =
    let here : rest ≡ front ++ back = split_parts rest (4 * words) front back split in
    let small_1 = IsBytes-behind bytes mark (name_bytes name ++ (u4 words ++ (u4 files ++ rest))) small headed.counted.named.spelling in
    let small_2 = IsBytes-behind (name_bytes name ++ (u4 words ++ (u4 files ++ rest))) (name_bytes name) (u4 words ++ (u4 files ++ rest)) small_1 refl in
    let small_3 = IsBytes-behind (u4 words ++ (u4 files ++ rest)) (u4 words) (u4 files ++ rest) small_2 refl in
    let small_4 = IsBytes-behind (u4 files ++ rest) (u4 files) rest small_3 refl in
    let read = words_there words front (IsBytes-front rest front back small_4 here) split.3 in
    let image : LinkedContent = record { main = name; words = read.words; files = all.files } in
    let parts : rest ≡ behind_numbers image = here ∙ ap (λ (t : List ℕ). t ++ back) read.spelling ∙ ap (λ (t : List ℕ). flat_map u4 read.words ++ t) all.spelling in
    let numbers : u4 words ++ (u4 files ++ rest) ≡ behind_name image =
    ap (λ (t : List ℕ). u4 words ++ (u4 files ++ t)) parts
    ∙ ap (λ (n : ℕ). u4 n ++ (u4 files ++ behind_numbers image)) (sym read.number)
    ∙ ap (λ (n : ℕ). u4 (length read.words) ++ (u4 n ++ behind_numbers image)) (sym all.number) in
    record {
      image = image;
      is = record {
        grammar = record {
          name = headed.counted.named.fits;
          word_count = subst IsWord (sym read.number) headed.counted.fits;
          words = read.fit;
          file_count = subst IsWord (sym all.number) headed.fits;
          files = all.fit;
        };
        spelling = headed.counted.named.spelling ∙ ap (λ (t : List ℕ). mark ++ (name_bytes name ++ t)) numbers;
      };
      its_name = refl;
      its_words = read.spelling;
      its_files = all.spelling;
    }

-- ---- what is written, part for part

pub written : (image : LinkedContent) (o0 o1 o2 o3 o4 o5 o6 o7 : List ℕ) → o0 ≡ [] → o1 ≡ o0 ++ mark → o2 ≡ o1 ++ u2 (length image.main) → o3 ≡ o2 ++ image.main → o4 ≡ o3 ++ u4 (length image.words)
    → o5 ≡ o4 ++ u4 (length image.files) → o6 ≡ o5 ++ flat_map u4 image.words → o7 ≡ o6 ++ flat_map file_bytes image.files → o7 ≡ bytes_of image
written image o0 o1 o2 o3 o4 o5 o6 o7 e0 e1 e2 e3 e4 e5 e6 e7 = rw (e7, e6, e5, e4, e3, e2, e1, e0) (simp append_assoc)

-- ---- the law

abbrev made : List ℕ → List ℕ → List (List ℕ) → LinkedContent
made name words files = record { main = name; words = words; files = files }

made_same : (m n v w : List ℕ) (f g : List (List ℕ)) → m ≡ n → v ≡ w → f ≡ g → made m v f ≡ made n w g
made_same m n v w f g names words files = ap (λ (x : List ℕ). made x v f) names ∙ ap (λ (x : List ℕ). made n x f) words ∙ ap (λ (x : List (List ℕ)). made n w x) files

pub one_image : OneImage
one_image bytes a b is_a is_b =
    let named : IsNamed bytes a.main (behind_name a) = record { fits = is_a.grammar.name; spelling = is_a.spelling } in
    let counted : IsCounted bytes a.main (length a.words) (behind_count a) = record { named = named; fits = is_a.grammar.word_count } in
    let headed : IsHeaded bytes a.main (length a.words) (length a.files) (behind_numbers a) = record { counted = counted; fits = is_a.grammar.file_count } in
    let name = (named_is bytes a.main (behind_name a) b named is_b).0 in
    let words = (counted_is bytes a.main (length a.words) (behind_count a) b counted is_b).0 in
    let files = headed_is bytes a.main (length a.words) (length a.files) (behind_numbers a) b headed is_b in
    let both = none_behind u4 IsWord u4_unique a.words b.words (flat_map file_bytes a.files) (flat_map file_bytes b.files) is_a.grammar.words is_b.grammar.words words files.1 in
    let rest : flat_map file_bytes a.files ++ [] ≡ flat_map file_bytes b.files ++ [] = ap (λ (t : List ℕ). t ++ []) both.1 in
    let last = none_behind file_bytes IsFile file_unique a.files b.files [] [] is_a.grammar.files is_b.grammar.files files.0 rest in
    made_same a.main b.main a.words b.words a.files b.files name both.0 last.0
