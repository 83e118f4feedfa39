-- Values one behind the other, each with its bytes.
use Rattle.std.proofs.Common.{◌≡◌, ℕ, zero, suc, ◌+◌, ◌*◌, ◌^◌, ◌<◌, List, [], ◌∷◌, ◌++◌, length, take, drop, refl, sym, ap, subst, ◌∙◌, append_assoc, arith}
use Rattle.std.proofs.Common.{◌==◌, Bool, eqb-true, eq-eqb, get_or}
use Rattle.std.specs.Global.{Vec}
use Rattle.std.specs.Prelude.{IsTrue, ◌↔◌}
use Rattle.std.proofs.lemmas.List.{length-append, length-drop, append-nil, nil_from_length, flat_map_more}
use Rattle.std.proofs.lemmas.List.Concat.{flat_map-cons}
use Rattle.std.specs.Int.{w32, from_be_bytes}
use Rattle.std.specs.List.{flat_map, AllByRecursion}
use Rattle.image_file.specs.Linked.{IsWord, IsFile, u4, file_bytes, contents}
use Rattle.image_file.specs.Front.{AreFiles}
use Rattle.image_file.proofs.Numbers.{IsBytes, IsBytes-drop, Unique, u4_unique, u4_found, u4_small, file_unique}

-- each value has a byte
abbrev pub HasBytes : {X : Type 0} → (X → List ℕ) → Type 0
HasBytes {X} spelled = (x : X) → 0 < length (spelled x)

pub u4_has : HasBytes u4
u4_has n = omega arith

pub file_has : HasBytes file_bytes
file_has file = omega (arith, length-append (u4 (length file)) file)

-- no value stands at the front of the bytes
abbrev pub IsAbsent : {X : Type 0} → (X → List ℕ) → (X → Type 0) → List ℕ → Type 0
IsAbsent {X} spelled Fits bytes = (x : X) (rest : List ℕ) → Fits x → bytes ≡ spelled x ++ rest → ⊥

next : {X : Type 0} (spelled : X → List ℕ) (x : X) (xs : List X) (rest bytes : List ℕ) → flat_map spelled (x ∷ xs) ++ rest ≡ bytes → spelled x ++ (flat_map spelled xs ++ rest) ≡ bytes
next spelled x xs rest bytes e = sym (append_assoc (spelled x) (flat_map spelled xs) rest) ∙ ap (λ (front : List ℕ). front ++ rest) (sym (flat_map-cons spelled x xs)) ∙ e

-- values were taken off the front until none stood there: they are all of those that the bytes are
pub all_taken : {X : Type 0} (spelled : X → List ℕ) (Fits : X → Type 0) → Unique spelled Fits → HasBytes spelled → (front xs : List X) (rest : List ℕ) → AllByRecursion Fits front → AllByRecursion Fits xs
    → IsAbsent spelled Fits rest → flat_map spelled front ++ rest ≡ flat_map spelled xs → front ≡ xs
all_taken spelled Fits unique has [] [] rest f g none e = refl
all_taken spelled Fits unique has [] (y ∷ ys) rest f g none e = absurd (none y (flat_map spelled ys) g.0 (e ∙ flat_map-cons spelled y ys))
all_taken spelled Fits unique has (x ∷ xs) [] rest f g none e =
    let long = has x in
    absurd (omega (arith, ap (λ (b : List ℕ). length b) (next spelled x xs rest [] e), length-append (spelled x) (flat_map spelled xs ++ rest)))
all_taken spelled Fits unique has (x ∷ xs) (y ∷ ys) rest f g none e =
    let both = unique x y (flat_map spelled xs ++ rest) (flat_map spelled ys) f.0 g.0 (next spelled x xs rest (flat_map spelled (y ∷ ys)) e ∙ flat_map-cons spelled y ys) in
    let same = all_taken spelled Fits unique has xs ys rest f.1 g.1 none both.1 in
    ap (λ (h : _). h ∷ xs) both.0 ∙ ap (λ (l : List _). y ∷ l) same

-- as many values as the bytes are were taken off the front: nothing stands behind them
pub none_behind : {X : Type 0} (spelled : X → List ℕ) (Fits : X → Type 0) → Unique spelled Fits → (front xs : List X) (rest tail : List ℕ) → AllByRecursion Fits front → AllByRecursion Fits xs
    → length front ≡ length xs → flat_map spelled front ++ rest ≡ flat_map spelled xs ++ tail → (front ≡ xs) × (rest ≡ tail)
none_behind spelled Fits unique [] [] rest tail f g long e = (refl, e)
none_behind spelled Fits unique [] (y ∷ ys) rest tail f g long e = absurd (omega arith)
none_behind spelled Fits unique (x ∷ xs) [] rest tail f g long e = absurd (omega arith)
none_behind spelled Fits unique (x ∷ xs) (y ∷ ys) rest tail f g long e =
    let both = unique x y (flat_map spelled xs ++ rest) (flat_map spelled ys ++ tail) f.0 g.0 (next spelled x xs rest (flat_map spelled (y ∷ ys) ++ tail) e ∙ sym (next spelled y ys tail (flat_map spelled (y ∷ ys) ++ tail) refl)) in
    let same = none_behind spelled Fits unique xs ys rest tail f.1 g.1 (omega arith) both.1 in
    (ap (λ (h : _). h ∷ xs) both.0 ∙ ap (λ (l : List _). y ∷ l) same.0, same.1)

-- four bytes for each word
pub words_long : (words : List ℕ) → length (flat_map u4 words) ≡ 4 * length words
words_long [] = refl
words_long (w ∷ ws) = ap (λ (b : List ℕ). length b) (flat_map-cons u4 w ws) ∙ omega (arith, length-append (u4 w) (flat_map u4 ws), words_long ws)

pub record AreWords (count : ℕ) (bytes : List ℕ) : Type 0 where
  pub words : List ℕ
  pub number : length words ≡ count
  pub fit : AllByRecursion IsWord words
  pub spelling : bytes ≡ flat_map u4 words

-- all bytes, four for each, are words
pub words_there : (count : ℕ) (bytes : List ℕ) → IsBytes bytes → length bytes ≡ 4 * count → AreWords count bytes
words_there zero [] small long = record { words = []; number = refl; fit = tt; spelling = refl }
words_there zero (b ∷ bytes) small long = absurd (omega arith)
words_there (suc n) bytes small long =
    let w : ℕ = from_be_bytes w32 (take 4 bytes) in
    let found = u4_found bytes w small (omega arith) refl in
    let more = words_there n (drop 4 bytes) (IsBytes-drop 4 bytes small) (omega (arith, length-drop 4 bytes)) in
    record {
      words = w ∷ more.words;
      number = ap suc more.number;
      fit = (u4_small bytes small, more.fit);
      spelling = found ∙ ap (λ (t : List ℕ). u4 w ++ t) more.spelling ∙ sym (flat_map-cons u4 w more.words);
    }

all_and_one : {X : Type 0} (Fits : X → Type 0) (xs : List X) (x : X) → AllByRecursion Fits xs → Fits x → AllByRecursion Fits (xs ++ x ∷ [])
all_and_one Fits [] x fit one = (one, tt)
all_and_one Fits (y ∷ ys) x fit one = (fit.0, all_and_one Fits ys x fit.1 one)

one_more : {X : Type 0} (spelled : X → List ℕ) (front : List X) (x : X) (bytes rest after : List ℕ) → bytes ≡ flat_map spelled front ++ rest → rest ≡ spelled x ++ after → bytes ≡ flat_map spelled (front ++ x ∷ []) ++ after
one_more spelled front x bytes rest after e f =
    e ∙ ap (λ (t : List ℕ). flat_map spelled front ++ t) f ∙ sym (append_assoc (flat_map spelled front) (spelled x) after) ∙ ap (λ (t : List ℕ). t ++ after) (flat_map_more spelled [] front x)

-- values that were taken off the front of bytes, and the bytes behind them
pub record IsTaken {X : Type 0} (spelled : X → List ℕ) (Fits : X → Type 0) (front : List X) (bytes rest : List ℕ) : Type 0 where
  pub fit : AllByRecursion Fits front
  pub spelling : bytes ≡ flat_map spelled front ++ rest

pub taken_none : {X : Type 0} (spelled : X → List ℕ) (Fits : X → Type 0) (bytes : List ℕ) → IsTaken spelled Fits [] bytes bytes
taken_none spelled Fits bytes = record { fit = tt; spelling = refl }

pub taken_more : {X : Type 0} (spelled : X → List ℕ) (Fits : X → Type 0) (front : List X) (x : X) (bytes rest after : List ℕ) → IsTaken spelled Fits front bytes rest → Fits x × (rest ≡ spelled x ++ after)
    → IsTaken spelled Fits (front ++ x ∷ []) bytes after
taken_more spelled Fits front x bytes rest after taken found =
    record { fit = all_and_one Fits front x taken.fit found.0; spelling = one_more spelled front x bytes rest after taken.spelling found.1 }

-- what is left is shorter
pub shorter : {X : Type 0} (spelled : X → List ℕ) → HasBytes spelled → (x : X) (rest after : List ℕ) → rest ≡ spelled x ++ after → length after < length rest
shorter spelled has x rest after e =
    let long = has x in
    omega (arith, ap (λ (b : List ℕ). length b) e, length-append (spelled x) after)

pub words_taken : (front : List ℕ) (bytes rest : List ℕ) → IsTaken u4 IsWord front bytes rest → IsAbsent u4 IsWord rest → (xs : List ℕ) → AllByRecursion IsWord xs → bytes ≡ flat_map u4 xs → front ≡ xs
words_taken front bytes rest taken none xs fit e = all_taken u4 IsWord u4_unique u4_has front xs rest taken.fit fit none (sym taken.spelling ∙ e)

pub files_taken : (front : List (List ℕ)) (bytes rest : List ℕ) → IsTaken file_bytes IsFile front bytes rest → IsAbsent file_bytes IsFile rest → (xs : List (List ℕ)) → AllByRecursion IsFile xs → bytes ≡ flat_map file_bytes xs → front ≡ xs
files_taken front bytes rest taken none xs fit e = all_taken file_bytes IsFile file_unique file_has front xs rest taken.fit fit none (sym taken.spelling ∙ e)

-- so many files were taken off the front
pub record AreTaken (count : ℕ) (bytes rest : List ℕ) : Type 0 where
  pub files : List (List ℕ)
  pub number : length files ≡ count
  pub are : IsTaken file_bytes IsFile files bytes rest

pub files_more : (i : ℕ) (file bytes rest after : List ℕ) → AreTaken i bytes rest → IsFile file × (rest ≡ file_bytes file ++ after) → AreTaken (i + 1) bytes after
files_more i file bytes rest after taken found =
    record {
      files = taken.files ++ file ∷ [];
      number = omega (arith, length-append taken.files (file ∷ []), taken.number);
      are = taken_more file_bytes IsFile taken.files file bytes rest after taken.are found;
    }

-- no file stands where one is due
pub too_few : (i count : ℕ) (bytes rest : List ℕ) → i < count → AreTaken i bytes rest → IsAbsent file_bytes IsFile rest → AreFiles count bytes → ⊥
too_few i count bytes rest lt taken none all =
    let same = files_taken taken.files bytes rest taken.are none all.files all.fit all.spelling in
    absurd (omega (arith, ap (λ (l : List (List ℕ)). length l) same, taken.number, all.number))

-- the last file is behind
pub decided : (i count : ℕ) (bytes rest : List ℕ) (empty : Bool) → i ≡ count → AreTaken i bytes rest → empty ≡ (length rest == 0) → IsTrue empty ↔ AreFiles count bytes
decided i count bytes rest empty last taken is = (
  λ nothing.
      let none : rest ≡ [] = nil_from_length rest (eqb-true (length rest) 0 (sym is ∙ nothing)) in
      record {
        files = taken.files;
        number = taken.number ∙ last;
        fit = taken.are.fit;
        spelling = taken.are.spelling ∙ ap (λ (t : List ℕ). flat_map file_bytes taken.files ++ t) none ∙ append-nil (flat_map file_bytes taken.files);
      },
  λ all.
      let same = none_behind file_bytes IsFile file_unique taken.files all.files rest [] taken.are.fit all.fit (taken.number ∙ last ∙ sym all.number) (sym taken.are.spelling ∙ all.spelling ∙ sym (append-nil (flat_map file_bytes all.files))) in
      is ∙ eq-eqb (length rest) 0 (ap (λ (b : List ℕ). length b) same.1),
)

pub words_fit : (words : List ℕ) → ((k : ℕ) → get_or words k 0 < 2 ^ 32) → AllByRecursion IsWord words
words_fit [] small = tt
words_fit (w ∷ ws) small = (small 0, words_fit ws (λ k. small (suc k)))

pub file_fits : (files : List (Vec ℕ)) (i : ℕ) (file : Vec ℕ) → AllByRecursion IsFile (contents files) → i < length files → file ≡ get_or files i file → IsFile file.items
file_fits [] i file fit lt is = absurd (omega arith)
file_fits (f ∷ fs) zero file fit lt is = subst (λ (v : Vec ℕ). IsFile v.items) (sym is) fit.0
file_fits (f ∷ fs) (suc i) file fit lt is = file_fits fs i file fit.1 (omega arith) is
