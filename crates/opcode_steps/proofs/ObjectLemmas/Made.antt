-- An object that is made: its words, where they lie, and what stays where it was.
use Rattle.std.proofs.Common.{◌≡◌, ℕ, zero, suc, ◌+◌, ◌-◌, ◌*◌, ◌<◌, ◌≤◌, pos, List, [], ◌∷◌, ◌++◌, length, take, drop, replicate, map, refl, sym, ◌∙◌, ap, subst, arith, append_assoc, length-append}
use Rattle.std.specs.Prelude.{slice_set}
use Rattle.std.specs.List.{flat_map, sum_by}
use Rattle.std.proofs.Math.Seq.{set-append_seam}
use Rattle.std.proofs.lemmas.List.{take-append-drop, take-append-le, replicate-append-replicate, length-replicate}
use Rattle.std.proofs.lemmas.List.Sums.{sum_by-append, sum_by-cons}
use Rattle.machine_memory.specs.Timing.Port.{padded}
use Rattle.bytecode_model.specs.declared.Value.{Value}
use Rattle.bytecode_model.specs.declared.Value.TheVariants.{Int, Long, Null}
use Rattle.bytecode_model.specs.Types.{NumberType, IntType, LongType, Declared, Numeric, Reference, default, zero_of}
use Rattle.bytecode_model.specs.State.{Object, State}
use Rattle.bytecode_model.specs.Program.{Program}
use Rattle.bytecode_model.specs.Sizes.{value_words, object_words, made_words}
use Rattle.bytecode_model.specs.WellFormed.{AreValues, IsWellFormed}
use Rattle.image_facts.specs.Words.{words_of, declared_words}
use Rattle.image_facts.specs.Places.{Places, objects_place, object_place, end_of, image_words}
use Rattle.image_facts.specs.Laws.{FirstObjectsStay}
use Rattle.image_facts.specs.Says.{Says}
use Rattle.machine_stands.specs.StandsFor.{limits_of}

-- ---- values that objects begin with

-- they are values of any state
pub defaults_are : (objects : ℕ) (ds : List Declared) → AreValues objects (map default ds)
defaults_are objects [] = tt
defaults_are objects (Numeric IntType ∷ ds) = (record { sfits = omega arith }, defaults_are objects ds)
defaults_are objects (Numeric LongType ∷ ds) = (record { sfits = omega arith }, defaults_are objects ds)
defaults_are objects (Reference k ∷ ds) = (tt, defaults_are objects ds)

pub zeros_are : (objects : ℕ) (t : NumberType) (n : ℕ) → AreValues objects (replicate n (zero_of t))
zeros_are objects t zero = tt
zeros_are objects IntType (suc n) = (record { sfits = omega arith }, zeros_are objects IntType n)
zeros_are objects LongType (suc n) = (record { sfits = omega arith }, zeros_are objects LongType n)

pub nulls_are : (objects n : ℕ) → AreValues objects (replicate n Null)
nulls_are objects zero = tt
nulls_are objects (suc n) = (tt, nulls_are objects n)

-- their words are zeros, and as many as they take
pub record AreZeros (place : ℕ → ℕ) (vs : List Value) (count : ℕ) : Type 0 where
  pub words : flat_map (words_of place) vs ≡ replicate count 0
  pub sum : sum_by value_words vs ≡ count

one_zero : (place : ℕ → ℕ) (v : Value) (vs : List Value) (count : ℕ) → words_of place v ≡ 0 ∷ [] → value_words v ≡ 1 → AreZeros place vs count → AreZeros place (v ∷ vs) (suc count)
one_zero place v vs count is takes h = record {
  words = ap (λ (ws : List ℕ). ws ++ flat_map (words_of place) vs) is ∙ ap (λ (ws : List ℕ). 0 ∷ ws) h.words;
  sum = sum_by-cons value_words v vs ∙ omega (arith, takes, h.sum);
}

two_zeros : (place : ℕ → ℕ) (v : Value) (vs : List Value) (count : ℕ) → words_of place v ≡ 0 ∷ 0 ∷ [] → value_words v ≡ 2 → AreZeros place vs count → AreZeros place (v ∷ vs) (suc (suc count))
two_zeros place v vs count is takes h = record {
  words = ap (λ (ws : List ℕ). ws ++ flat_map (words_of place) vs) is ∙ ap (λ (ws : List ℕ). 0 ∷ 0 ∷ ws) h.words;
  sum = sum_by-cons value_words v vs ∙ omega (arith, takes, h.sum);
}

none_at_all : (place : ℕ → ℕ) → AreZeros place [] 0
none_at_all place = record { words = refl; sum = refl }

counted_as : (place : ℕ → ℕ) (vs : List Value) (m n : ℕ) → m ≡ n → AreZeros place vs m → AreZeros place vs n
counted_as place vs m n e h = subst (AreZeros place vs) e h

pub default_zeros : (place : ℕ → ℕ) (ds : List Declared) → AreZeros place (map default ds) (sum_by declared_words ds)
default_zeros place [] = none_at_all place
default_zeros place (Numeric IntType ∷ ds) =
    let more = sum_by-cons declared_words (Numeric IntType) ds in
    counted_as place (map default (Numeric IntType ∷ ds)) _ _ (omega (arith, more)) (one_zero place (Int (pos 0)) (map default ds) (sum_by declared_words ds) refl refl (default_zeros place ds))
default_zeros place (Numeric LongType ∷ ds) =
    let more = sum_by-cons declared_words (Numeric LongType) ds in
    counted_as place (map default (Numeric LongType ∷ ds)) _ _ (omega (arith, more)) (two_zeros place (Long (pos 0)) (map default ds) (sum_by declared_words ds) refl refl (default_zeros place ds))
default_zeros place (Reference k ∷ ds) =
    let more = sum_by-cons declared_words (Reference k) ds in
    counted_as place (map default (Reference k ∷ ds)) _ _ (omega (arith, more)) (one_zero place Null (map default ds) (sum_by declared_words ds) refl refl (default_zeros place ds))

pub int_zeros : (place : ℕ → ℕ) (n : ℕ) → AreZeros place (replicate n (Int (pos 0))) n
int_zeros place zero = none_at_all place
int_zeros place (suc n) = one_zero place (Int (pos 0)) (replicate n (Int (pos 0))) n refl refl (int_zeros place n)

pub null_zeros : (place : ℕ → ℕ) (n : ℕ) → AreZeros place (replicate n Null) n
null_zeros place zero = none_at_all place
null_zeros place (suc n) = one_zero place Null (replicate n Null) n refl refl (null_zeros place n)

pub long_zeros : (place : ℕ → ℕ) (n : ℕ) → AreZeros place (replicate n (Long (pos 0))) (n * 2)
long_zeros place zero = none_at_all place
long_zeros place (suc n) =
    counted_as place (replicate (suc n) (Long (pos 0))) _ _ (omega arith) (two_zeros place (Long (pos 0)) (replicate n (Long (pos 0))) (n * 2) refl refl (long_zeros place n))

-- ---- the memory, in which words behind the last object are written

-- words, and zeros up to the size
padded_is : (whole : List ℕ) (size rest : ℕ) → length whole + rest ≡ size → padded whole size ≡ whole ++ replicate rest 0
padded_is whole size rest e = ap (λ (k : ℕ). whole ++ replicate k 0) (let k : size - length whole ≡ rest = omega (arith, e) in k)

joined : (whole front : List ℕ) (size z r : ℕ) → length whole + (length front + (z + r)) ≡ size → whole ++ (front ++ replicate (z + r) 0) ≡ padded (whole ++ (front ++ replicate z 0)) size
joined whole front size z r e =
    ap (λ (ws : List ℕ). whole ++ (front ++ ws)) (sym (replicate-append-replicate z r 0))
    ∙ ap (λ (ws : List ℕ). whole ++ ws) (sym (append_assoc front (replicate z 0) (replicate r 0)))
    ∙ sym (append_assoc whole (front ++ replicate z 0) (replicate r 0))
    ∙ ap (λ (k : ℕ). (whole ++ (front ++ replicate z 0)) ++ replicate k 0)
    (let k : r ≡ size - length (whole ++ (front ++ replicate z 0)) = omega (arith, e, length-append whole (front ++ replicate z 0), length-append front (replicate z 0), length-replicate {A = ℕ} z 0) in k)

one_written_at : (whole : List ℕ) (size word z r : ℕ) → length whole + (1 + (z + r)) ≡ size → slice_set (padded whole size) (length whole) word ≡ padded (whole ++ (word ∷ replicate z 0)) size
one_written_at whole size word z r e =
    ap (λ (ws : List ℕ). slice_set ws (length whole) word) (padded_is whole size (suc (z + r)) (omega (arith, e)))
    ∙ set-append_seam whole 0 (replicate (z + r) 0) word
    ∙ joined whole (word ∷ []) size z r e

pub one_written : (whole : List ℕ) (size word z : ℕ) → length whole + (1 + z) ≤ size → slice_set (padded whole size) (length whole) word ≡ padded (whole ++ (word ∷ replicate z 0)) size
one_written whole size word z h = one_written_at whole size word z (size - (length whole + (1 + z))) (omega (arith, h))

two_written_at : (whole : List ℕ) (size first second z r : ℕ) → length whole + (2 + (z + r)) ≡ size
    → slice_set (slice_set (padded whole size) (length whole) first) (length whole + 1) second ≡ padded (whole ++ (first ∷ second ∷ replicate z 0)) size
two_written_at whole size first second z r e =
    let one : List ℕ = first ∷ [] in
    let front = whole ++ one in
    let at : length whole + 1 ≡ length front = sym (length-append whole one) in
    ap (λ (ws : List ℕ). slice_set (slice_set ws (length whole) first) (length whole + 1) second) (padded_is whole size (suc (suc (z + r))) (omega (arith, e)))
    ∙ ap (λ (ws : List ℕ). slice_set ws (length whole + 1) second) (set-append_seam whole 0 (0 ∷ replicate (z + r) 0) first)
    ∙ ap (λ (ws : List ℕ). slice_set ws (length whole + 1) second) (sym (append_assoc whole one (0 ∷ replicate (z + r) 0)))
    ∙ ap (λ (k : ℕ). slice_set (front ++ (0 ∷ replicate (z + r) 0)) k second) at
    ∙ set-append_seam front 0 (replicate (z + r) 0) second
    ∙ append_assoc whole one (second ∷ replicate (z + r) 0)
    ∙ joined whole (first ∷ second ∷ []) size z r e

pub two_written : (whole : List ℕ) (size first second z : ℕ) → length whole + (2 + z) ≤ size
    → slice_set (slice_set (padded whole size) (length whole) first) (length whole + 1) second ≡ padded (whole ++ (first ∷ second ∷ replicate z 0)) size
two_written whole size first second z h = two_written_at whole size first second z (size - (length whole + (2 + z))) (omega (arith, h))

-- ---- places

-- the objects so far stay where they are
pub places_stay : (P : Program) (pl : Places) (objects : List Object) (o : Object) (p : ℕ) → p < length objects → object_place P pl (objects ++ o ∷ []) p ≡ object_place P pl objects p
places_stay P pl objects o p h = ap (λ (os : List Object). objects_place P pl + sum_by (object_words P) os) (take-append-le p objects (o ∷ []) (omega (arith, h)))

-- the one that is made begins where these end
pub made_place : (P : Program) (pl : Places) (objects : List Object) (o : Object) → object_place P pl (objects ++ o ∷ []) (length objects) ≡ end_of P pl objects
made_place P pl objects o = ap (λ (os : List Object). objects_place P pl + sum_by (object_words P) os) (take-append-le (length objects) objects (o ∷ []) (omega arith) ∙ all_taken objects)
  where
    all_taken : (os : List Object) → take (length os) os ≡ os
    all_taken [] = refl
    all_taken (q ∷ os) = ap (λ (rest : List Object). q ∷ rest) (all_taken os)

pub made_end : (P : Program) (pl : Places) (objects : List Object) (o : Object) → end_of P pl (objects ++ o ∷ []) ≡ end_of P pl objects + object_words P o
made_end P pl objects o = let sum = sum_by-append (object_words P) objects (o ∷ []) in let one = sum_by-cons (object_words P) o [] in omega (arith, sum, one)

-- behind the words of the image come those of the objects that were made
pub end_is : FirstObjectsStay → (P : Program) (pl : Places) (n size : ℕ) (s : State) → Says P pl → IsWellFormed P (limits_of P pl n size) s → end_of P pl s.objects ≡ image_words P pl + made_words P s
end_is stay P pl n size s says well =
    let first = length P.first_objects in
    let words = object_words P in
    let same = stay P pl (limits_of P pl n size) s first says.first well (omega arith) in
    let parts : sum_by words s.objects ≡ sum_by words (take first s.objects) + sum_by words (drop first s.objects) =
    ap (sum_by words) (sym (take-append-drop first s.objects)) ∙ sum_by-append words (take first s.objects) (drop first s.objects) in
    let whole : sum_by words (take first P.first_objects) ≡ sum_by words P.first_objects = ap (sum_by words) (all_taken P.first_objects) in
    omega (arith, same, parts, whole)
  where
    all_taken : (os : List Object) → take (length os) os ≡ os
    all_taken [] = refl
    all_taken (q ∷ os) = ap (λ (rest : List Object). q ∷ rest) (all_taken os)
