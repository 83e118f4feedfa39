-- Words as signed numbers: the division by their magnitudes, with the signs put back.
use Rattle.std.proofs.Common.{◌≡◌, ℕ, zero, suc, ◌+◌, ◌-◌, ◌*◌, ◌/◌, ◌%◌, ◌^◌, ◌<◌, ◌≤◌, Bool, true, false, nat_lt, refl, sym, ap, ◌∙◌, arith, ltb-true, ltb-false}
use Rattle.std.specs.Prelude.{ℤ, pos, negsuc, neg_ℤ, int_rem, int_div}
use Rattle.std.specs.Int.{w32, cast_signed, cast_unsigned}
use Rattle.std.proofs.Math.Nat.{mod-eq_of_lt, div-eq_of_lt, mod-lt, mul-add-mod_self_right}
use Rattle.std.proofs.lemmas.Nat.{div-mul-add}
use Rattle.std.proofs.lemmas.Int.{of_z-to_z}
use mir.Val.{sel}
use Rattle.micro_sketch.specs.DivisionOps.{quotient, remainder}
use Rattle.micro_sketch.proofs.PlainRows.DivideTurn.{sign_of, magnitude}
use Rattle.micro_sketch.proofs.PlainRows.DivideMath.{Divides, within}

-- a word with the other sign
abbrev pub negated : ℕ → ℕ
negated n = (2 ^ 32 - n) % 2 ^ 32

pub times_one : (n : ℕ) → n < 2 ^ 32 → (n * 1) % 2 ^ 32 ≡ n
times_one n h = ap (λ i. i % 2 ^ 32) (let e : n * 1 ≡ n = omega arith in e) ∙ mod-eq_of_lt h

pub times_minus : (n : ℕ) → n ≤ 2 ^ 32 → (n * (2 ^ 32 - 1)) % 2 ^ 32 ≡ negated n
times_minus zero h = refl
times_minus (suc m) h = ap (λ i. i % 2 ^ 32) (let e : suc m * (2 ^ 32 - 1) ≡ m * 2 ^ 32 + (2 ^ 32 - suc m) = omega arith in e) ∙ mul-add-mod_self_right m (2 ^ 32) (2 ^ 32 - suc m)

pub negated_twice : (n : ℕ) → n < 2 ^ 32 → negated (negated n) ≡ n
negated_twice zero h = refl
negated_twice (suc m) h =
    ap (λ i. (2 ^ 32 - i) % 2 ^ 32) (let l : 2 ^ 32 - suc m < 2 ^ 32 = omega arith in mod-eq_of_lt l) ∙ ap (λ i. i % 2 ^ 32) (let e : 2 ^ 32 - (2 ^ 32 - suc m) ≡ suc m = omega arith in e) ∙ mod-eq_of_lt h

pub of_neg : (n : ℕ) → n ≤ 2 ^ 32 → cast_unsigned w32 (neg_ℤ (pos n)) ≡ negated n
of_neg zero h = refl
of_neg (suc m) h = sym (mod-eq_of_lt (omega arith))

-- a word's sign and magnitude
pub data Sign (w : ℕ) : Type 0 where
  Plus : cast_signed w32 w ≡ pos w → sign_of w ≡ 1 → magnitude w ≡ w → w < 2 ^ 31 → Sign w
  Minus : (m : ℕ) → cast_signed w32 w ≡ negsuc m → sign_of w ≡ 2 ^ 32 - 1 → magnitude w ≡ suc m → m < 2 ^ 31 → Sign w

pub signed_by : (w : ℕ) (b : Bool) → nat_lt w (2 ^ 31) ≡ b → cast_signed w32 w ≡ sel b (pos w) (negsuc (2 ^ 32 - suc w))
signed_by w b e = ap (λ c. sel c (pos w) (negsuc (2 ^ 32 - suc w))) e

pub sign_by : (w : ℕ) (b : Bool) → nat_lt w (2 ^ 31) ≡ b → w < 2 ^ 32 → Sign w
sign_by w true e h =
    let l : w < 2 ^ 31 = ltb-true w (2 ^ 31) e in
    let s : sign_of w ≡ 1 = ap (λ i. (1 + (2 ^ 32 - (i + i) % 2 ^ 32)) % 2 ^ 32) (div-eq_of_lt l) in
    Plus (signed_by w true e) s (ap (λ i. (w * i) % 2 ^ 32) s ∙ times_one w h) l
sign_by w false e h =
    let l : 2 ^ 31 ≤ w = ltb-false w (2 ^ 31) e in
    let top : w / 2 ^ 31 ≡ 1 = ap (λ i. i / 2 ^ 31) (let f : w ≡ 1 * 2 ^ 31 + (w - 2 ^ 31) = omega arith in f) ∙ div-mul-add 1 (2 ^ 31) (w - 2 ^ 31) (omega arith) in
    let s : sign_of w ≡ 2 ^ 32 - 1 = ap (λ i. (1 + (2 ^ 32 - (i + i) % 2 ^ 32)) % 2 ^ 32) top in
    Minus (2 ^ 32 - suc w) (signed_by w false e) s (ap (λ i. (w * i) % 2 ^ 32) s ∙ times_minus w (omega arith) ∙ (let f : 2 ^ 32 - w < 2 ^ 32 = omega arith in mod-eq_of_lt f) ∙ omega arith) (omega arith)

pub sign_view : (w : ℕ) → w < 2 ^ 32 → Sign w
sign_view w h = sign_by w (nat_lt w (2 ^ 31)) refl h

-- a magnitude is at most 2 ^ 31, and that of what isn't zero isn't zero
pub magnitude_fits : (w : ℕ) → Sign w → magnitude w ≤ 2 ^ 31
magnitude_fits w (Plus v s m l) = omega arith
magnitude_fits w (Minus k v s m l) = omega arith

pub magnitude_positive : (w : ℕ) → Sign w → 0 < w → 0 < magnitude w
magnitude_positive w (Plus v s m l) h = omega arith
magnitude_positive w (Minus k v s m l) h = omega arith

-- the quotient and the remainder of magnitudes
pub quotient_is : (h d q r : ℕ) → Divides h d q r → h / d ≡ q
quotient_is h d q r s = ap (λ i. i / d) s.sum ∙ div-mul-add q d r s.below

pub remainder_is : (h d q r : ℕ) → Divides h d q r → h % d ≡ r
remainder_is h d q r s = ap (λ i. i % d) s.sum ∙ mul-add-mod_self_right q d r ∙ mod-eq_of_lt s.below

-- the bits of a number, of which the type's are left
abbrev pub wrapped : ℤ → ℕ
wrapped z = cast_unsigned w32 (cast_signed w32 (cast_unsigned w32 z))

pub wrapped_pos : (n : ℕ) → n < 2 ^ 32 → wrapped (pos n) ≡ n
wrapped_pos n h = of_z-to_z w32 n h

pub wrapped_neg : (n : ℕ) → n ≤ 2 ^ 32 → wrapped (neg_ℤ (pos n)) ≡ negated n
wrapped_neg n h = ap (λ i. cast_unsigned w32 (cast_signed w32 i)) (of_neg n h) ∙ of_z-to_z w32 (negated n) (mod-lt (2 ^ 32 - n) (omega arith))

-- what the microcode makes of the quotient and the remainder of magnitudes
abbrev pub signed_quotient : (q a b : ℕ) → ℕ
signed_quotient q a b = ((q * sign_of a) % 2 ^ 32 * sign_of b) % 2 ^ 32

abbrev pub signed_remainder : (r a : ℕ) → ℕ
signed_remainder r a = (r * sign_of a) % 2 ^ 32

pub once : (q g h : ℕ) → g ≡ 1 → q < 2 ^ 32 → ((q * g) % 2 ^ 32 * h) % 2 ^ 32 ≡ (q * h) % 2 ^ 32
once q g h e l = ap (λ i. (i * h) % 2 ^ 32) (ap (λ i. (q * i) % 2 ^ 32) e ∙ times_one q l)

pub twice : (q g h : ℕ) → g ≡ 2 ^ 32 - 1 → q < 2 ^ 32 → ((q * g) % 2 ^ 32 * h) % 2 ^ 32 ≡ (negated q * h) % 2 ^ 32
twice q g h e l = ap (λ i. (i * h) % 2 ^ 32) (ap (λ i. (q * i) % 2 ^ 32) e ∙ times_minus q (omega arith))

pub by_one : (q h : ℕ) → h ≡ 1 → q < 2 ^ 32 → (q * h) % 2 ^ 32 ≡ q
by_one q h e l = ap (λ i. (q * i) % 2 ^ 32) e ∙ times_one q l

pub by_minus : (q h : ℕ) → h ≡ 2 ^ 32 - 1 → q < 2 ^ 32 → (q * h) % 2 ^ 32 ≡ negated q
by_minus q h e l = ap (λ i. (q * i) % 2 ^ 32) e ∙ times_minus q (omega arith)

pub quotient_signed : (a b q : ℕ) → Sign a → Sign b → magnitude a / magnitude b ≡ q → q < 2 ^ 32 → signed_quotient q a b ≡ quotient a b
quotient_signed a b q (Plus v s m l) (Plus w t o k) e f =
    let is : a / b ≡ q = (λ i. sym m i / sym o i) ∙ e in
    once q (sign_of a) (sign_of b) s f ∙ by_one q (sign_of b) t f ∙ sym ((λ i. wrapped (int_div (v i) (w i))) ∙ ap (λ j. wrapped (pos j)) is ∙ wrapped_pos q f)
quotient_signed a b q (Plus v s m l) (Minus d w t o k) e f =
    let is : a / suc d ≡ q = (λ i. sym m i / sym o i) ∙ e in
    once q (sign_of a) (sign_of b) s f ∙ by_minus q (sign_of b) t f ∙ sym ((λ i. wrapped (int_div (v i) (w i))) ∙ ap (λ j. wrapped (neg_ℤ (pos j))) is ∙ wrapped_neg q (omega arith))
quotient_signed a b q (Minus c v s m l) (Plus w t o k) e f =
    let is : suc c / b ≡ q = (λ i. sym m i / sym o i) ∙ e in
    twice q (sign_of a) (sign_of b) s f ∙ by_one (negated q) (sign_of b) t (mod-lt (2 ^ 32 - q) (omega arith)) ∙ sym ((λ i. wrapped (int_div (v i) (w i))) ∙ ap (λ j. wrapped (neg_ℤ (pos j))) is ∙ wrapped_neg q (omega arith))
quotient_signed a b q (Minus c v s m l) (Minus d w t o k) e f =
    let is : suc c / suc d ≡ q = (λ i. sym m i / sym o i) ∙ e in
    twice q (sign_of a) (sign_of b) s f ∙ by_minus (negated q) (sign_of b) t (mod-lt (2 ^ 32 - q) (omega arith)) ∙ negated_twice q f ∙ sym ((λ i. wrapped (int_div (v i) (w i))) ∙ ap (λ j. wrapped (pos j)) is ∙ wrapped_pos q f)

pub remainder_signed : (a b r : ℕ) → Sign a → Sign b → magnitude a % magnitude b ≡ r → r < 2 ^ 32 → signed_remainder r a ≡ remainder a b
remainder_signed a b r (Plus v s m l) (Plus w t o k) e f =
    let is : a % b ≡ r = (λ i. sym m i % sym o i) ∙ e in
    by_one r (sign_of a) s f ∙ sym ((λ i. cast_unsigned w32 (int_rem (v i) (w i))) ∙ is)
remainder_signed a b r (Plus v s m l) (Minus d w t o k) e f =
    let is : a % suc d ≡ r = (λ i. sym m i % sym o i) ∙ e in
    by_one r (sign_of a) s f ∙ sym ((λ i. cast_unsigned w32 (int_rem (v i) (w i))) ∙ is)
remainder_signed a b r (Minus c v s m l) (Plus w t o k) e f =
    let is : suc c % b ≡ r = (λ i. sym m i % sym o i) ∙ e in
    by_minus r (sign_of a) s f ∙ sym ((λ i. cast_unsigned w32 (int_rem (v i) (w i))) ∙ ap (λ j. cast_unsigned w32 (neg_ℤ (pos j))) is ∙ of_neg r (omega arith))
remainder_signed a b r (Minus c v s m l) (Minus d w t o k) e f =
    let is : suc c % suc d ≡ r = (λ i. sym m i % sym o i) ∙ e in
    by_minus r (sign_of a) s f ∙ sym ((λ i. cast_unsigned w32 (int_rem (v i) (w i))) ∙ ap (λ j. cast_unsigned w32 (neg_ℤ (pos j))) is ∙ of_neg r (omega arith))

-- the signs put back make the quotient and the remainder
pub signs_back : (a b q r : ℕ) → a < 2 ^ 32 → b < 2 ^ 32 → Divides (magnitude a) (magnitude b) q r → (signed_quotient q a b ≡ quotient a b) × (signed_remainder r a ≡ remainder a b)
signs_back a b q r h k s =
    let sa = sign_view a h in
    let sb = sign_view b k in
    let most = magnitude_fits a sa in
    let less = magnitude_fits b sb in
    let lt = s.below in
    let in_all = within (magnitude a) (magnitude b) q r s in
    (quotient_signed a b q sa sb (quotient_is (magnitude a) (magnitude b) q r s) (omega arith), remainder_signed a b r sa sb (remainder_is (magnitude a) (magnitude b) q r s) (omega arith))
