-- Tests as the bits of a number, and which types are supertypes.
use Rattle.std.proofs.Common.{◌≡◌, ℕ, zero, suc, ◌+◌, ◌-◌, ◌*◌, ◌^◌, ◌<◌, Bool, List, [], ◌∷◌, ◌++◌, Some, map, take, drop, length, min, refl, sym, ap, ap₂, ◌∙◌, arith}
use Rattle.std.specs.Prelude.{slice_get}
use Rattle.std.proofs.lemmas.List.{map-append, length-drop, take_min}
use Rattle.std.proofs.Math.Nat.{two-pow-succ, mul-add}
use Rattle.std.proofs.Math.Pow.{pow-lt}
use Rattle.image_facts.specs.Says.{bit_of}
use Rattle.lists.proofs.Lemmas.{none≢some}
use Rattle.image_words.specs.Regions.{number_of_bits}
use Rattle.image_builder.proofs.ListLemmas.{take_some}

bits_case : (c n b p q m : ℕ) → m ≡ n + b * p → q ≡ p + p → c + 2 * m ≡ c + 2 * n + b * q
bits_case c n b p q m h e =
    let twice : b * q ≡ b * p + b * p = ap (λ x. b * x) e ∙ mul-add b p p in
    omega (arith, h, twice)

bits_push : (bs : List Bool) (b : Bool) → number_of_bits (bs ++ b ∷ []) ≡ number_of_bits bs + bit_of b * 2 ^ length bs
bits_push [] b = omega arith
bits_push (c ∷ bs) b =
    let rest = bits_push bs b in
    bits_case (bit_of c) (number_of_bits bs) (bit_of b) (2 ^ length bs) (2 ^ suc (length bs)) (number_of_bits (bs ++ b ∷ [])) rest (two-pow-succ (length bs))

taken_length : {A : Type 0} (xs : List A) (i : ℕ) (x : A) → slice_get xs i ≡ Some x → length (take i xs) ≡ i
taken_length [] i x h = absurd (none≢some x h)
taken_length (y ∷ xs) zero x h = refl
taken_length (y ∷ xs) (suc i) x h = ap suc (taken_length xs i x h)

map_length : {A : Type 0} (f : A → Bool) (xs : List A) → length (map f xs) ≡ length xs
map_length f [] = refl
map_length f (x ∷ xs) = ap suc (map_length f xs)

pub bits_more : {A : Type 0} (f : A → Bool) (xs : List A) (i : ℕ) (x : A) (word new : ℕ) → slice_get xs i ≡ Some x → word ≡ number_of_bits (map f (take i xs)) → new ≡ word + bit_of (f x) * 2 ^ i
    → new ≡ number_of_bits (map f (take (i + 1) xs))
bits_more f xs i x word new at h e =
    let long : length (map f (take i xs)) ≡ i = map_length f (take i xs) ∙ taken_length xs i x at in
    e
    ∙ (ap₂ (λ (w : ℕ) (n : ℕ). w + bit_of (f x) * 2 ^ n) h (sym long)
    ∙ sym (ap (λ ys. number_of_bits (map f ys)) (take_some xs i x at) ∙ (ap number_of_bits (map-append f (take i xs) (x ∷ [])) ∙ bits_push (map f (take i xs)) (f x))))

pub drop_get : {A : Type 0} (xs : List A) (n i : ℕ) → slice_get (drop n xs) i ≡ slice_get xs (n + i)
drop_get xs zero i = let same : i ≡ 0 + i = omega arith in ap (slice_get xs) same
drop_get [] (suc n) i = refl
drop_get (x ∷ xs) (suc n) i = let same : suc (n + i) ≡ suc n + i = omega arith in drop_get xs n i ∙ ap (slice_get (x ∷ xs)) same

pub bits_whole : {A : Type 0} (f : A → Bool) (xs : List A) (first many : ℕ) → many ≡ min 32 (length xs - first) → number_of_bits (map f (take many (drop first xs))) ≡ number_of_bits (map f (take 32 (drop first xs)))
bits_whole f xs first many h =
    let same : many ≡ min 32 (length (drop first xs)) = let long = length-drop first xs in h ∙ ap (min 32) (sym long) in
    ap (λ ys. number_of_bits (map f ys)) (ap (λ n. take n (drop first xs)) same ∙ take_min 32 (drop first xs))

pub power_more : (n : ℕ) → 2 ^ (n + 1) ≡ 2 ^ n + 2 ^ n
power_more n = let next : n + 1 ≡ suc n = omega arith in ap (λ k. 2 ^ k) next ∙ two-pow-succ n

pub power_below : (n : ℕ) → n < 32 → 2 ^ n < 4294967296
power_below n lt = pow-lt lt
