-- The bits of a type's supertypes.
use Rattle.std.proofs.Common.{◌≡◌, ℕ, zero, suc, ◌+◌, ◌*◌, ◌/◌, ◌%◌, ◌^◌, ◌<◌, Bool, true, false, List, [], ◌∷◌, Some, map, take, drop, length, refl, sym, ap, ◌∙◌, arith}
use Rattle.std.specs.Prelude.{slice_get, slice_index}
use Rattle.std.specs.Option.{option_map}
use Rattle.std.specs.List.{range_with_len}
use Rattle.std.specs.Int.{div_ceil}
use Rattle.std.proofs.Math.Nat.{pow-suc, div-div-eq-div-mul}
use Rattle.std.proofs.lemmas.Option.{slice_get-map, slice_get_within}
use Rattle.bytecode_model.specs.Program.{is_of}
use Rattle.lists.proofs.Lemmas.{none≢some, some_same}
use Rattle.image_facts.specs.Says.{bit_of}
use Rattle.program_tables.specs.Numbers.{types_of}
use Rattle.program_tables.specs.Resolved.{resolved}
use Rattle.image_words.specs.Regions.{number_of_bits, supertype_word, supertype_words}
use Rattle.image_laws.specs.Laws.{SupertypesAreSaid}
use Rattle.image_words.proofs.Sizes.{twice}
use Rattle.image_laws.proofs.Codes.{if_some}

-- ---- the digits of a number of bits

first_digit : (c : Bool) (n : ℕ) → (bit_of c + 2 * n) / 1 % 2 ≡ bit_of c
first_digit true n = omega arith
first_digit false n = omega arith

half_of : (c : Bool) (n : ℕ) → (bit_of c + 2 * n) / 2 ≡ n
half_of true n = omega arith
half_of false n = omega arith

digit : (bits : List Bool) (i : ℕ) (b : Bool) → slice_get bits i ≡ Some b → number_of_bits bits / 2 ^ i % 2 ≡ bit_of b
digit [] i b h = absurd (none≢some b h)
digit (c ∷ bits) zero b h = first_digit c (number_of_bits bits) ∙ ap bit_of (some_same c b h)
digit (c ∷ bits) (suc i) b h =
    let n = bit_of c + 2 * number_of_bits bits in
    ap (λ d. n / d % 2) (pow-suc 2 i ∙ twice (2 ^ i))
    ∙ (ap (λ q. q % 2) (sym (div-div-eq-div-mul n 2 (2 ^ i)))
    ∙ (ap (λ q. q / 2 ^ i % 2) (half_of c (number_of_bits bits)) ∙ digit bits i b h))

-- ---- parts of a list

get_take : {A : Type 0} (n i : ℕ) (xs : List A) → i < n → slice_get (take n xs) i ≡ slice_get xs i
get_take zero i xs lt = absurd (omega (arith, lt))
get_take (suc n) i [] lt = refl
get_take (suc n) zero (x ∷ xs) lt = refl
get_take (suc n) (suc i) (x ∷ xs) lt = get_take n i xs (omega (arith, lt))

get_drop : {A : Type 0} (n i : ℕ) (xs : List A) → slice_get (drop n xs) i ≡ slice_get xs (n + i)
get_drop zero i xs = let same : i ≡ 0 + i = omega arith in ap (slice_get xs) same
get_drop (suc n) i [] = refl
get_drop (suc n) i (x ∷ xs) = let same : suc (n + i) ≡ suc n + i = omega arith in get_drop n i xs ∙ ap (slice_get (x ∷ xs)) same

index_map : (f : ℕ → ℕ) (a n j : ℕ) → j < n → slice_index (map f (range_with_len a n)) j ≡ f (a + j)
index_map f a zero j lt = absurd (omega (arith, lt))
index_map f a (suc n) zero lt = let same : a ≡ a + 0 = omega arith in ap f same
index_map f a (suc n) (suc j) lt = let same : a + 1 + j ≡ a + suc j = omega arith in index_map f (a + 1) n j (omega (arith, lt)) ∙ ap f same

word_within : (u n : ℕ) → u < n → u / 32 < div_ceil n 32
word_within u n lt = omega (arith, lt)

-- ---- the bits

pub supertypes : SupertypesAreSaid
supertypes cs k u =
    let P = resolved cs in
    let types = types_of cs in
    if_some (slice_get types u) (λ l. slice_index (supertype_words cs k) (u / 32) / 2 ^ (u % 32) % 2 ≡ bit_of (is_of P k l)) (λ l e.
    let j = u / 32 in
    let i = u % 32 in
    let lt = slice_get_within types u l e in
    let low : i < 32 = omega arith in
    let whole : 32 * j + i ≡ u = omega arith in
    let none : 0 + j ≡ j = omega arith in
    let word : slice_index (supertype_words cs k) j ≡ supertype_word cs k j =
    index_map (supertype_word cs k) 0 (div_ceil (length types) 32) j (word_within u (length types) lt) ∙ ap (supertype_word cs k) none in
    let part = take 32 (drop (32 * j) types) in
    let at : slice_get part i ≡ Some l = get_take 32 i (drop (32 * j) types) low ∙ (get_drop (32 * j) i types ∙ (ap (slice_get types) whole ∙ e)) in
    let bit = slice_get-map (is_of P k) part i ∙ ap (option_map (is_of P k)) at in
    ap (λ n. n / 2 ^ i % 2) word ∙ digit (map (is_of P k) part) i (is_of P k l) bit)
