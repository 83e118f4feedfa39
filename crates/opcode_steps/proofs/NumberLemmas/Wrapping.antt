-- Numbers of a width, and what is left of a result there, as words.
use Rattle.std.proofs.Common.{◌≡◌, ℕ, zero, suc, ◌+◌, ◌-◌, ◌*◌, ◌%◌, ◌^◌, ◌<◌, refl, sym, ap, ◌∙◌, arith, zero-add}
use Rattle.std.specs.Prelude.{ℤ, pos, negsuc, ◌+ℤ◌, ◌-ℤ◌, ◌*ℤ◌, neg_ℤ}
use Rattle.std.specs.Int.{Width, w8, w16, w32, w64, w128, int_wrap, cast_signed, cast_unsigned}
use Rattle.std.specs.Int.RustNames.{FitsSigned}
use mir.Val.{bits}
use Rattle.std.proofs.Math.Nat.{mod-eq_of_lt}
use Rattle.std.proofs.lemmas.Nat.{pow_pos, mod_below}
use Rattle.std.proofs.lemmas.Int.{ints, to_z-of_z, of_z-to_z, int_wrap-mul_right, wrapping_add_is, wrapping_sub_is, wrapping_mul_is, wrapping_neg_is, wrapping_mul-bits}

-- a number of the width is one of its words
pub word_fits : (w : Width) (x : ℤ) → FitsSigned w x → cast_unsigned w x < 2 ^ bits w
word_fits w8 (pos n) h = omega (arith, h.sfits)
word_fits w16 (pos n) h = omega (arith, h.sfits)
word_fits w32 (pos n) h = omega (arith, h.sfits)
word_fits w64 (pos n) h = omega (arith, h.sfits)
word_fits w128 (pos n) h = omega (arith, h.sfits)
word_fits w8 (negsuc n) h = omega (arith, h.sfits)
word_fits w16 (negsuc n) h = omega (arith, h.sfits)
word_fits w32 (negsuc n) h = omega (arith, h.sfits)
word_fits w64 (negsuc n) h = omega (arith, h.sfits)
word_fits w128 (negsuc n) h = omega (arith, h.sfits)

-- a word that reads as what is left of a number is the word of that
pub is_word : (w : Width) (k : ℕ) (z : ℤ) → k < 2 ^ bits w → cast_signed w k ≡ int_wrap w z → k ≡ cast_unsigned w (int_wrap w z)
is_word w k z small e = sym (of_z-to_z w k small) ∙ ap (cast_unsigned w) e

left_small : (w : Width) (k : ℕ) → k % 2 ^ bits w < 2 ^ bits w
left_small w k = mod_below k (2 ^ bits w) (pow_pos (bits w))

-- the low bits of a natural number
pub wrapped_natural : (w : Width) (n : ℕ) → cast_signed w (n % 2 ^ bits w) ≡ int_wrap w (pos n)
unfolding int_wrap
wrapped_natural w n = refl

pub wrapped_negative : (w : Width) (n : ℕ) → cast_signed w (2 ^ bits w - 1 - n % 2 ^ bits w) ≡ int_wrap w (negsuc n)
unfolding int_wrap
wrapped_negative w n = refl

pub natural_word : (w : Width) (n : ℕ) → n < 2 ^ bits w → n ≡ cast_unsigned w (int_wrap w (pos n))
natural_word w n small = is_word w n (pos n) small (ap (cast_signed w) (sym (mod-eq_of_lt small)) ∙ wrapped_natural w n)

pub sum_word : (w : Width) (x y : ℤ) → FitsSigned w x → FitsSigned w y
    → (cast_unsigned w x + cast_unsigned w y) % 2 ^ bits w ≡ cast_unsigned w (int_wrap w (x +ℤ y))
sum_word w x y p q = is_word w ((cast_unsigned w x + cast_unsigned w y) % 2 ^ bits w) (x +ℤ y) (left_small w (cast_unsigned w x + cast_unsigned w y)) (wrapping_add_is w x y p q)

pub difference_word : (w : Width) (x y : ℤ) → FitsSigned w x → FitsSigned w y
    → (cast_unsigned w x + (2 ^ bits w - cast_unsigned w y)) % 2 ^ bits w ≡ cast_unsigned w (int_wrap w (x -ℤ y))
difference_word w x y p q =
    is_word w ((cast_unsigned w x + (2 ^ bits w - cast_unsigned w y)) % 2 ^ bits w) (x -ℤ y) (left_small w (cast_unsigned w x + (2 ^ bits w - cast_unsigned w y))) (wrapping_sub_is w x y p q)

pub product_word : (w : Width) (x y : ℤ) → FitsSigned w x → FitsSigned w y
    → (cast_unsigned w x * cast_unsigned w y) % 2 ^ bits w ≡ cast_unsigned w (int_wrap w (x *ℤ y))
product_word w x y p q = is_word w ((cast_unsigned w x * cast_unsigned w y) % 2 ^ bits w) (x *ℤ y) (left_small w (cast_unsigned w x * cast_unsigned w y)) (wrapping_mul_is w x y p q)

from_zero : (x : ℤ) → pos 0 -ℤ x ≡ neg_ℤ x
from_zero (pos zero) = refl
from_zero (pos (suc n)) = omega (arith, ints)
from_zero (negsuc n) = ap pos (zero-add (suc n))

pub negated_word : (w : Width) (x : ℤ) → FitsSigned w x → (2 ^ bits w - cast_unsigned w x) % 2 ^ bits w ≡ cast_unsigned w (int_wrap w (pos 0 -ℤ x))
negated_word w x p =
    is_word w ((2 ^ bits w - cast_unsigned w x) % 2 ^ bits w) (pos 0 -ℤ x) (left_small w (2 ^ bits w - cast_unsigned w x)) (wrapping_neg_is w x p ∙ ap (int_wrap w) (sym (from_zero x)))

-- a shift to the left by fewer places than the width has
pub shifted_word : (w : Width) (x : ℤ) (k : ℕ) → FitsSigned w x → 2 ^ k < 2 ^ bits w → (cast_unsigned w x * 2 ^ k) % 2 ^ bits w ≡ cast_unsigned w (int_wrap w (x *ℤ pos (2 ^ k)))
shifted_word w x k p small =
    let factor : cast_signed w (2 ^ k) ≡ int_wrap w (pos (2 ^ k)) = ap (cast_signed w) (sym (mod-eq_of_lt small)) ∙ wrapped_natural w (2 ^ k) in
    is_word w ((cast_unsigned w x * 2 ^ k) % 2 ^ bits w) (x *ℤ pos (2 ^ k)) (left_small w (cast_unsigned w x * 2 ^ k))
    (wrapping_mul-bits w (cast_unsigned w x) (2 ^ k) (word_fits w x p) small
    ∙ ap (λ (z : ℤ). int_wrap w (z *ℤ cast_signed w (2 ^ k))) (to_z-of_z w x p)
    ∙ ap (λ (z : ℤ). int_wrap w (x *ℤ z)) factor
    ∙ int_wrap-mul_right w x (pos (2 ^ k)))
