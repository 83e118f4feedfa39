-- The rows of shifts of longs.
use Rattle.std.proofs.Common.{◌≡◌, ℕ, suc, ◌+◌, ◌-◌, ◌*◌, ◌/◌, ◌%◌, ◌^◌, ◌<◌, ◌&&◌, Bool, true, false, nat_lt, if◌then◌else◌, List, [], ◌∷◌, drop, bit_and, refl, sym, ap, ◌∙◌, arith, ltb-true, ltb-false}
use Rattle.std.proofs.Math.Nat.{div-div-eq-div-mul, pow-suc, div-le_self}
use Rattle.std.proofs.lemmas.Nat.Bits.{and_pow, shr_and_one}
use Rattle.std.proofs.lemmas.Nat.{and_mask, pow-add, pow_pos, mul-mod_first}
use Rattle.jop_core.specs.Operations.{is_negative, shifted_right}
use Rattle.micro_sketch.specs.Sketch.{Sketch, same_bool}
use Rattle.micro_sketch.specs.Rows.{entered}
use Rattle.micro_sketch.specs.Operand.{leaves}
use Rattle.micro_sketch.specs.StackOps.{third}
use Rattle.micro_sketch.specs.LongOps.{LongOp, Lshl, Lshr, Lushr, long_code, long_effect, long_of, with_long, long_shifted_right, HasLongBelow}
use Rattle.micro_sketch.proofs.PlainRows.Shaping.{Row, comes_to}
use Rattle.micro_sketch.proofs.PlainRows.Longs.{pair, same_pair, sign_word}
use Rattle.micro_sketch.proofs.PlainRows.Shifts.{left_low, left_high, left_far, right, low_part, moved, signed_low}

abbrev Shown : LongOp → Sketch → Type 0
Shown op x = Row (long_code op) (long_effect op) x

-- bit 5 of the count, as the row tests it
abbrev is_far : ℕ → Bool
is_far c = nat_lt 0 (bit_and c 32)

bit_five : (c : ℕ) → bit_and c 32 ≡ (c / 32) % 2 * 32
bit_five c = and_pow c 5 ∙ ap (λ i. i * 32) (sym (shr_and_one c 5) ∙ and_mask (c / 2 ^ 5) 1)

-- the count by whether it is far
near_count : (c : ℕ) → is_far c ≡ false → c % 64 ≡ c % 32
near_count c e = omega (arith, ltb-false 0 (bit_and c 32) e, bit_five c)

far_count : (c : ℕ) → is_far c ≡ true → c % 64 ≡ c % 32 + 32
far_count c e = omega (arith, ltb-true 0 (bit_and c 32) e, bit_five c)

-- 2 ^ k and 2 ^ (32 - k), for the low five bits k of the count
abbrev power : ℕ → ℕ
power c = 2 ^ (c % 32)

abbrev others : ℕ → ℕ
others c = 2 ^ (32 - c % 32)

split : (c : ℕ) → power c * others c ≡ 2 ^ 32
split c = sym (pow-add 2 (c % 32) (32 - c % 32)) ∙ ap (λ i. 2 ^ i) (let e : c % 32 + (32 - c % 32) ≡ 32 = omega arith in e)

-- the row shifts by 1 and by what its count makes of 31
abbrev rest_of : ℕ → ℕ
rest_of c = (31 + (2 ^ 32 - c)) % 2 ^ 32 % 32

rest_is : (c : ℕ) → c < 2 ^ 32 → 32 - c % 32 ≡ suc (rest_of c)
rest_is c h = omega (arith, h)

others_is : (c : ℕ) → c < 2 ^ 32 → others c ≡ 2 * 2 ^ rest_of c
others_is c h = ap (λ i. 2 ^ i) (rest_is c h) ∙ pow-suc 2 (rest_of c) ∙ (let turned : 2 ^ rest_of c * 2 ≡ 2 * 2 ^ rest_of c = omega arith in turned)

far_power : (c : ℕ) → is_far c ≡ true → 2 ^ (c % 64) ≡ power c * 2 ^ 32
far_power c e = ap (λ i. 2 ^ i) (far_count c e) ∙ pow-add 2 (c % 32) 32

abbrev long : Sketch → ℕ
long x = long_of (third x) x.next

-- the test of a guess
fine_as : (guess : Bool) (c : ℕ) → is_far c ≡ guess → (same_bool guess (is_far c) && true) ≡ true
fine_as true c e = ap (λ b. b && true) e
fine_as false c e = ap (λ b. (if b then false else true) && true) e

-- To the left.

left_near : (h l c : ℕ) → c < 2 ^ 32 → is_far c ≡ false → ((h * power c) % 2 ^ 32 + l / 2 ^ 1 / 2 ^ rest_of c) % 2 ^ 32 ≡ (long_of h l * 2 ^ (c % 64)) % 2 ^ 64 / 2 ^ 32
left_near h l c w e =
    ap (λ i. ((h * power c) % 2 ^ 32 + i) % 2 ^ 32) (div-div-eq-div-mul l 2 (2 ^ rest_of c) ∙ ap (λ i. l / i) (sym (others_is c w)))
    ∙ left_high h l (power c) (others c) (split c) (pow_pos (c % 32)) (pow_pos (32 - c % 32))
    ∙ ap (λ i. (long_of h l * 2 ^ i) % 2 ^ 64 / 2 ^ 32) (sym (near_count c e))

pub lshl : (x : Sketch) → HasLongBelow (entered 121 x) → Shown Lshl x
lshl x h = by (is_far x.top) refl
  where
    z : Sketch
    z = entered 121 x

    rest : List ℕ
    rest = drop 1 z.under

    v : ℕ
    v = (long z * 2 ^ (z.top % 64)) % 2 ^ 64

    by : (b : Bool) → is_far x.top ≡ b → Shown Lshl x
    by false e =
        let low = (z.next * power z.top) % 2 ^ 32 in
        let high = ((third z * power z.top) % 2 ^ 32 + z.next / 2 ^ 1 / 2 ^ rest_of z.top) % 2 ^ 32 in
        comes_to 121 (long_effect Lshl) x 20 (false ∷ []) (pair z low high rest) (same_bool false (is_far z.top) && true) refl (fine_as false x.top e)
        (same_pair z low high v rest (left_low (third z) z.next (power z.top) (others z.top) (split z.top) (pow_pos (z.top % 32)) (pow_pos (32 - z.top % 32)) ∙ ap (λ i. (long z * 2 ^ i) % 2 ^ 64 % 2 ^ 32) (sym (near_count z.top e))) (left_near (third z) z.next z.top h.count e))
    by true e =
        let high = (z.next * power z.top) % 2 ^ 32 in
        let whole : high * 2 ^ 32 ≡ v = left_far (third z) z.next (power z.top) ∙ ap (λ i. (long z * i) % 2 ^ 64) (sym (far_power z.top e)) in
        comes_to 121 (long_effect Lshl) x 10 (true ∷ []) (pair z 0 high rest) (same_bool true (is_far z.top) && true) refl (fine_as true x.top e)
        (same_pair z 0 high v rest (nothing high ∙ ap (λ i. i % 2 ^ 32) whole) (all high ∙ ap (λ i. i / 2 ^ 32) whole))
      where
        nothing : (n : ℕ) → 0 ≡ (n * 2 ^ 32) % 2 ^ 32
        nothing n = omega arith

        all : (n : ℕ) → n ≡ n * 2 ^ 32 / 2 ^ 32
        all n = omega arith

-- To the right.

-- the bits that come from the high word
carry : (h c : ℕ) → c < 2 ^ 32 → ((h * 2 ^ 1) % 2 ^ 32 * 2 ^ rest_of c) % 2 ^ 32 ≡ h % power c * others c
carry h c w =
    mul-mod_first (h * 2) (2 ^ rest_of c) (2 ^ 32)
    ∙ ap (λ i. i % 2 ^ 32) ((let turned : h * 2 * 2 ^ rest_of c ≡ h * (2 * 2 ^ rest_of c) = omega arith in turned) ∙ ap (λ i. h * i) (sym (others_is c w)))
    ∙ moved h (power c) (others c) (split c) (pow_pos (c % 32)) (pow_pos (32 - c % 32))

abbrev raw_low : (h l c : ℕ) → ℕ
raw_low h l c = (l / power c + ((h * 2 ^ 1) % 2 ^ 32 * 2 ^ rest_of c) % 2 ^ 32) % 2 ^ 32

abbrev low_word : (h l c : ℕ) → ℕ
low_word h l c = h % power c * others c + l / power c

low_small : (h l c : ℕ) → l < 2 ^ 32 → low_word h l c < 2 ^ 32
low_small h l c k = low_part h l (power c) (others c) (split c) (pow_pos (c % 32)) (pow_pos (32 - c % 32)) k

raw_low_is : (h l c : ℕ) → l < 2 ^ 32 → c < 2 ^ 32 → raw_low h l c ≡ low_word h l c
raw_low_is h l c k w = ap (λ i. (l / power c + i) % 2 ^ 32) (carry h c w) ∙ turned (l / power c) (h % power c * others c) (low_small h l c k)
  where
    turned : (a b : ℕ) → b + a < 2 ^ 32 → (a + b) % 2 ^ 32 ≡ b + a
    turned a b small = omega (arith, small)

whole : (h l c : ℕ) → long_of h l / power c ≡ h / power c * 2 ^ 32 + low_word h l c
whole h l c = right h l (power c) (others c) (split c) (pow_pos (c % 32)) (pow_pos (32 - c % 32))

-- a long of two words
two_words : (x : Sketch) (low high v : ℕ) (rest : List ℕ) → low < 2 ^ 32 → v ≡ high * 2 ^ 32 + low → pair x low high rest ≡ leaves (with_long v rest) x
two_words x low high v rest small same = same_pair x low high v rest (omega (arith, small, same)) (omega (arith, small, same))

-- by 32 bits more
far_whole : (h l c : ℕ) → l < 2 ^ 32 → is_far c ≡ true → long_of h l / 2 ^ (c % 64) ≡ h / power c
far_whole h l c k e =
    let turned : power c * 2 ^ 32 ≡ 2 ^ 32 * power c = omega arith in
    ap (λ i. long_of h l / i) (far_power c e ∙ turned) ∙ sym (div-div-eq-div-mul (long_of h l) (2 ^ 32) (power c)) ∙ ap (λ i. i / power c) (let high : long_of h l / 2 ^ 32 ≡ h = omega (arith, k) in high)

pub lushr : (x : Sketch) → HasLongBelow (entered 125 x) → Shown Lushr x
lushr x h = by (is_far x.top) refl
  where
    z : Sketch
    z = entered 125 x

    rest : List ℕ
    rest = drop 1 z.under

    v : ℕ
    v = long z / 2 ^ (z.top % 64)

    by : (b : Bool) → is_far x.top ≡ b → Shown Lushr x
    by false e =
        let high = third z / power z.top in
        let low = low_word (third z) z.next z.top in
        let same : v ≡ high * 2 ^ 32 + low = ap (λ i. long z / 2 ^ i) (near_count z.top e) ∙ whole (third z) z.next z.top in
        comes_to 125 (long_effect Lushr) x 20 (false ∷ []) (pair z (raw_low (third z) z.next z.top) high rest) (same_bool false (is_far z.top) && true) refl (fine_as false x.top e)
        (ap (λ i. pair z i high rest) (raw_low_is (third z) z.next z.top h.low h.count) ∙ two_words z low high v rest (low_small (third z) z.next z.top h.low) same)
    by true e =
        let low = third z / power z.top in
        let same : v ≡ 0 * 2 ^ 32 + low = far_whole (third z) z.next z.top h.low e ∙ omega arith in
        comes_to 125 (long_effect Lushr) x 10 (true ∷ []) (pair z low 0 rest) (same_bool true (is_far z.top) && true) refl (fine_as true x.top e)
        (two_words z low 0 v rest (omega (arith, div-le_self (third z) (power z.top), h.high)) same)

-- With the sign: the high word's.

long_sign : (h l : ℕ) → h < 2 ^ 32 → l < 2 ^ 32 → nat_lt (2 ^ 63 - 1) (long_of h l) ≡ is_negative h
long_sign h l a b = by (nat_lt (2 ^ 63 - 1) (long_of h l)) (is_negative h) refl refl
  where
    by : (s t : Bool) → nat_lt (2 ^ 63 - 1) (long_of h l) ≡ s → nat_lt (2 ^ 31 - 1) h ≡ t → s ≡ t
    by true true e f = refl
    by true false e f = absurd (omega (arith, ltb-true (2 ^ 63 - 1) (long_of h l) e, ltb-false (2 ^ 31 - 1) h f, b))
    by false true e f = absurd (omega (arith, ltb-false (2 ^ 63 - 1) (long_of h l) e, ltb-true (2 ^ 31 - 1) h f))
    by false false e f = refl

abbrev shifted_by : (negative : Bool) → (v q bits : ℕ) → ℕ
shifted_by negative v q bits = if negative then bits - (bits - v) / q else v / q

signed_near : (b : Bool) (h l c : ℕ) → h < 2 ^ 32 → l < 2 ^ 32 → shifted_by b (long_of h l) (power c) (2 ^ 64 - 1) ≡ shifted_by b h (power c) (2 ^ 32 - 1) * 2 ^ 32 + low_word h l c
signed_near true h l c a k = signed_low h l (power c) (others c) (split c) (pow_pos (c % 32)) (pow_pos (32 - c % 32)) a k
signed_near false h l c a k = whole h l c

signed_far : (b : Bool) (h l c : ℕ) → h < 2 ^ 32 → l < 2 ^ 32 → is_far c ≡ true → shifted_by b (long_of h l) (2 ^ (c % 64)) (2 ^ 64 - 1) ≡ (if b then 2 ^ 32 - 1 else 0) * 2 ^ 32 + shifted_by b h (power c) (2 ^ 32 - 1)
signed_far true h l c a k e =
    let h' = 2 ^ 32 - 1 - h in
    let l' = 2 ^ 32 - 1 - l in
    let comp : 2 ^ 64 - 1 - long_of h l ≡ long_of h' l' = omega (arith, a, k) in
    let q = ap (λ i. i / 2 ^ (c % 64)) comp ∙ far_whole h' l' c (omega arith) e in
    ap (λ i. 2 ^ 64 - 1 - i) q ∙ joins (h' / power c) (omega (arith, div-le_self h' (power c)))
  where
    joins : (n : ℕ) → n < 2 ^ 32 → 2 ^ 64 - 1 - n ≡ (2 ^ 32 - 1) * 2 ^ 32 + (2 ^ 32 - 1 - n)
    joins n h = omega (arith, h)
signed_far false h l c a k e = far_whole h l c k e ∙ omega arith

word_by : (b : Bool) (h q : ℕ) → h < 2 ^ 32 → shifted_by b h q (2 ^ 32 - 1) < 2 ^ 32
word_by true h q k = omega arith
word_by false h q k = omega (arith, div-le_self h q, k)

pub lshr : (x : Sketch) → HasLongBelow (entered 123 x) → Shown Lshr x
lshr x h = by (is_far x.top) refl
  where
    z : Sketch
    z = entered 123 x

    rest : List ℕ
    rest = drop 1 z.under

    v : ℕ
    v = long_shifted_right (long z) (z.top % 64)

    signed : v ≡ shifted_by (is_negative (third z)) (long z) (2 ^ (z.top % 64)) (2 ^ 64 - 1)
    signed = ap (λ (b : Bool). shifted_by b (long z) (2 ^ (z.top % 64)) (2 ^ 64 - 1)) (long_sign (third z) z.next h.high h.low)

    by : (b : Bool) → is_far x.top ≡ b → Shown Lshr x
    by false e =
        let high = shifted_right (third z) (z.top % 32) in
        let low = low_word (third z) z.next z.top in
        let same : v ≡ high * 2 ^ 32 + low = signed ∙ ap (λ i. shifted_by (is_negative (third z)) (long z) (2 ^ i) (2 ^ 64 - 1)) (near_count z.top e) ∙ signed_near (is_negative (third z)) (third z) z.next z.top h.high h.low in
        comes_to 123 (long_effect Lshr) x 20 (false ∷ []) (pair z (raw_low (third z) z.next z.top) high rest) (same_bool false (is_far z.top) && true) refl (fine_as false x.top e)
        (ap (λ i. pair z i high rest) (raw_low_is (third z) z.next z.top h.low h.count) ∙ two_words z low high v rest (low_small (third z) z.next z.top h.low) same)
    by true e =
        let high = shifted_right (third z) 31 in
        let low = shifted_right (third z) (z.top % 32) in
        let same : v ≡ high * 2 ^ 32 + low = signed ∙ signed_far (is_negative (third z)) (third z) z.next z.top h.high h.low e ∙ ap (λ i. i * 2 ^ 32 + low) (sym (sign_word (third z) h.high)) in
        comes_to 123 (long_effect Lshr) x 12 (true ∷ []) (pair z low high rest) (same_bool true (is_far z.top) && true) refl (fine_as true x.top e)
        (two_words z low high v rest (word_by (is_negative (third z)) (third z) (power z.top) h.high) same)
