-- The classes of files behind the core classes, looked at file by file.
use Rattle.std.proofs.Common.{◌≡◌, ℕ, zero, suc, ◌+◌, ◌<◌, ◌≤◌, List, [], ◌∷◌, map, length, take, drop, Option, Some, None, refl, sym, ap, ◌∙◌, arith, zero-add}
use Rattle.std.specs.Prelude.{option_map, slice_get}
use Rattle.std.specs.List.{flat_map, enumerate_from, AllByRecursion}
use Rattle.std.proofs.lemmas.Option.{slice_get_within, get_or_from_slice_get}
use Rattle.class_pool.specs.declared.class.ClassFile.{ClassFile}
use Rattle.lists.specs.Lists.{first}
use Rattle.lists.proofs.FirstLemmas.{found_number, none_number, none_numbered, first-map}
use Rattle.program_resolution.specs.Linked.{files_in}

get_dropped : {X : Type 0} (n : ℕ) (xs : List X) (i : ℕ) → slice_get (drop n xs) i ≡ slice_get xs (n + i)
get_dropped zero xs i = ap (slice_get xs) (sym (zero-add i))
get_dropped (suc n) [] i = refl
get_dropped (suc n) (x ∷ xs) i = let e : suc n + i ≡ suc (n + i) = omega arith in get_dropped n xs i ∙ ap (slice_get (x ∷ xs)) (sym e)

get_taken : {X : Type 0} (n : ℕ) (xs : List X) (i : ℕ) → i < n → slice_get (take n xs) i ≡ slice_get xs i
get_taken zero xs i lt = absurd (omega arith)
get_taken (suc n) [] i lt = refl
get_taken (suc n) (x ∷ xs) zero lt = refl
get_taken (suc n) (x ∷ xs) (suc i) lt = get_taken n xs i (omega arith)

short : {X : Type 0} (n : ℕ) (xs : List X) → length (take n xs) ≤ n
short zero xs = omega arith
short (suc n) [] = omega arith
short (suc n) (x ∷ xs) = let r = short n xs in omega arith

-- the class of a file is the one that stands so many behind the core classes
pub file_at : (cs : List ClassFile) (count file : ℕ) (k : ClassFile) → file < count → slice_get cs (23 + file) ≡ Some k → slice_get (files_in cs count) file ≡ Some k
file_at cs count file k lt at = get_taken count (drop 23 cs) file lt ∙ (get_dropped 23 cs file ∙ at)

pub few_files : (cs : List ClassFile) (count i : ℕ) → count ≤ i → length (files_in cs count) ≤ i
few_files cs count i le = let r = short count (drop 23 cs) in omega arith

-- ---- file by file

pub found_file : {Y : Type 0} (f : ℕ × ClassFile → List Y) (ks : List ClassFile) (i : ℕ) (k : ClassFile) (y : Y) → slice_get ks i ≡ Some k
    → flat_map f (take i (enumerate_from 0 ks)) ≡ [] → first (f (i, k)) ≡ Some y → Some y ≡ first (flat_map f (enumerate_from 0 ks))
found_file f ks i k y at none one = sym (found_number f ks i i k y (slice_get_within ks i k at) (sym (get_or_from_slice_get ks i k k at)) refl none one)

pub none_file : {Y : Type 0} (f : ℕ × ClassFile → List Y) (ks : List ClassFile) (i : ℕ) (k : ClassFile) → slice_get ks i ≡ Some k
    → flat_map f (take i (enumerate_from 0 ks)) ≡ [] → first (f (i, k)) ≡ None → flat_map f (take (i + 1) (enumerate_from 0 ks)) ≡ []
none_file f ks i k at none one = none_number f ks i i k (slice_get_within ks i k at) (sym (get_or_from_slice_get ks i k k at)) refl none one

pub no_file : {Y : Type 0} (f : ℕ × ClassFile → List Y) (cs : List ClassFile) (count i : ℕ) → count ≤ i
    → flat_map f (take i (enumerate_from 0 (files_in cs count))) ≡ [] → None ≡ first (flat_map f (enumerate_from 0 (files_in cs count)))
no_file f cs count i past none = sym (none_numbered f (files_in cs count) i i (few_files cs count i past) refl none)

pub first_mapped : {A B : Type 0} (f : A → B) (xs : List A) (o : Option A) → o ≡ first xs → option_map f o ≡ first (map f xs)
first_mapped f xs o e = ap (option_map f) e ∙ sym (first-map f xs)

pub all_at : {X : Type 0} (P : X → Type 0) (xs : List X) (i : ℕ) (x : X) → AllByRecursion P xs → slice_get xs i ≡ Some x → P x
all_at P [] i x all at = absurd (let f : None ≡ Some x = at in cc)
all_at P (y ∷ xs) zero x all at = let e : y ≡ x = cc in rw (← e) all.0
all_at P (y ∷ xs) (suc i) x all at = all_at P xs i x all.1 at
