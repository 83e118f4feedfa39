-- What is computed of two ints, in 32 bits.
use Rattle.std.proofs.Common.{◌≡◌, ◌≢◌, ℕ, zero, suc, ◌+◌, ◌-◌, ◌*◌, ◌/◌, ◌%◌, ◌^◌, ◌<◌, ◌≤◌, Some, refl, sym, ap, ◌∙◌, subst, arith}
use Rattle.std.specs.Prelude.{ℤ, pos, negsuc, ◌+ℤ◌, ◌-ℤ◌, ◌*ℤ◌, neg_ℤ, int_div}
use Rattle.std.specs.Int.{w32, int_wrap, cast_signed, cast_unsigned, int_shl, int_wrapping_neg}
use Rattle.std.specs.Int.Bits.{bit_and, bit_or, bit_xor}
use Rattle.std.specs.Int.RustNames.{FitsSigned}
use Rattle.std.proofs.Math.Nat.{div-le_self, div-lt_self, mod-eq_of_lt}
use Rattle.std.proofs.Math.Pow.{pow-lt}
use Rattle.std.proofs.lemmas.Nat.{and_le_l, or_lt, xor_lt, mod_below}
use Rattle.std.proofs.lemmas.Int.{to_z-of_z, int_wrap_fits, int_wrap-mul_right, wrapping_add_is, wrapping_sub_is, wrapping_mul_is, wrapping_neg_is, wrapping_mul-bits, quot_is}
use Rattle.bytecode_model.specs.Numbers.{bitwise, distance, quotient, shifted_left, shifted_right_unsigned}
use Rattle.known_ints.specs.declared.rows.Arithmetic.{Arithmetic}
use Rattle.known_ints.specs.declared.rows.Arithmetic.TheVariants as does
use Rattle.known_ints.specs.Arithmetic.{IsComputed}

word_fits : (x : ℤ) → FitsSigned w32 x → cast_unsigned w32 x < 2 ^ 32
word_fits (pos n) h = omega (arith, h.sfits)
word_fits (negsuc n) h = omega (arith, h.sfits)

-- the low bits of a natural number
wrapped_natural : (n : ℕ) → cast_signed w32 (n % 2 ^ 32) ≡ int_wrap w32 (pos n)
unfolding int_wrap
wrapped_natural n = refl

-- a word reads as what is left of it
pub word_is : (n : ℕ) → n < 2 ^ 32 → cast_signed w32 n ≡ int_wrap w32 (pos n)
word_is n small = ap (cast_signed w32) (sym (mod-eq_of_lt small)) ∙ wrapped_natural n

-- in whichever way
pub of_kind : (a b : Arithmetic) (y x c : ℤ) → a ≡ b → IsComputed b y x c → IsComputed a y x c
of_kind a b y x c e h = subst (λ (k : Arithmetic). IsComputed k y x c) (sym e) h

pub sum_is : (y x : ℤ) → FitsSigned w32 y → FitsSigned w32 x → IsComputed does.Sum y x (cast_signed w32 ((cast_unsigned w32 x + cast_unsigned w32 y) % 2 ^ 32))
sum_is y x q p = (x +ℤ y, refl, wrapping_add_is w32 x y p q)

pub difference_is : (y x : ℤ) → FitsSigned w32 y → FitsSigned w32 x → IsComputed does.Difference y x (cast_signed w32 ((cast_unsigned w32 x + (2 ^ 32 - cast_unsigned w32 y)) % 2 ^ 32))
difference_is y x q p = (x -ℤ y, refl, wrapping_sub_is w32 x y p q)

pub product_is : (y x : ℤ) → FitsSigned w32 y → FitsSigned w32 x → IsComputed does.Product y x (cast_signed w32 ((cast_unsigned w32 x * cast_unsigned w32 y) % 2 ^ 32))
product_is y x q p = (x *ℤ y, refl, wrapping_mul_is w32 x y p q)

-- ---- bit by bit

pub and_is : (y x : ℤ) → FitsSigned w32 y → FitsSigned w32 x → IsComputed does.And y x (cast_signed w32 (bit_and (cast_unsigned w32 x) (cast_unsigned w32 y)))
and_is y x q p =
    (bitwise w32 bit_and y x, refl, word_is (bit_and (cast_unsigned w32 x) (cast_unsigned w32 y)) (omega (arith, and_le_l (cast_unsigned w32 x) (cast_unsigned w32 y), word_fits x p)))

pub or_is : (y x : ℤ) → FitsSigned w32 y → FitsSigned w32 x → IsComputed does.Or y x (cast_signed w32 (bit_or (cast_unsigned w32 x) (cast_unsigned w32 y)))
or_is y x q p = (bitwise w32 bit_or y x, refl, word_is (bit_or (cast_unsigned w32 x) (cast_unsigned w32 y)) (or_lt 32 (cast_unsigned w32 x) (cast_unsigned w32 y) (word_fits x p) (word_fits y q)))

pub exclusive_or_is : (y x : ℤ) → FitsSigned w32 y → FitsSigned w32 x → IsComputed does.ExclusiveOr y x (cast_signed w32 (bit_xor (cast_unsigned w32 x) (cast_unsigned w32 y)))
exclusive_or_is y x q p =
    (bitwise w32 bit_xor y x, refl, word_is (bit_xor (cast_unsigned w32 x) (cast_unsigned w32 y)) (xor_lt 32 (cast_unsigned w32 x) (cast_unsigned w32 y) (word_fits x p) (word_fits y q)))

-- ---- shifts

power_small : (k : ℕ) → k < 32 → 2 ^ k < 2 ^ 32
power_small k lt = pow-lt lt

shifted_word : (x : ℤ) (k : ℕ) → FitsSigned w32 x → k < 32 → int_shl w32 x k ≡ int_wrap w32 (x *ℤ pos (2 ^ k))
shifted_word x k p lt =
    let small = power_small k lt in
    wrapping_mul-bits w32 (cast_unsigned w32 x) (2 ^ k) (word_fits x p) small
    ∙ ap (λ (z : ℤ). int_wrap w32 (z *ℤ cast_signed w32 (2 ^ k))) (to_z-of_z w32 x p)
    ∙ ap (λ (z : ℤ). int_wrap w32 (x *ℤ z)) (word_is (2 ^ k) small)
    ∙ int_wrap-mul_right w32 x (pos (2 ^ k))

-- of the word of the second int, and the first one cast
distance_is : (y : ℤ) (k : ℕ) → FitsSigned w32 y → k ≡ cast_unsigned w32 (cast_signed w32 (cast_unsigned w32 y)) → k % 32 ≡ distance 32 y
distance_is y k q e = ap (λ (n : ℕ). n % 32) (e ∙ ap (cast_unsigned w32) (to_z-of_z w32 y q))

pub left_is : (y x r : ℤ) (k : ℕ) → FitsSigned w32 y → FitsSigned w32 x → FitsSigned w32 r → k ≡ cast_unsigned w32 (cast_signed w32 (cast_unsigned w32 y))
    → r ≡ int_shl w32 (cast_signed w32 (cast_unsigned w32 x)) (k % 32) → IsComputed does.ShiftLeft y x (cast_signed w32 (cast_unsigned w32 r))
left_is y x r k q p fits e f = (
  shifted_left 32 y x,
  refl,
  to_z-of_z w32 r fits
      ∙ f
      ∙ ap (λ (z : ℤ). int_shl w32 z (k % 32)) (to_z-of_z w32 x p)
      ∙ ap (int_shl w32 x) (distance_is y k q e)
      ∙ shifted_word x (distance 32 y) p (mod_below (cast_unsigned w32 y) 32 (omega arith)),
)

-- to the right without the sign
pub right_unsigned_is : (y x r : ℤ) (k n m : ℕ) → FitsSigned w32 y → FitsSigned w32 x → FitsSigned w32 r → k ≡ cast_unsigned w32 (cast_signed w32 (cast_unsigned w32 y))
    → n ≡ cast_unsigned w32 (cast_signed w32 (cast_unsigned w32 x)) → m ≡ n / 2 ^ (k % 32) → r ≡ cast_signed w32 m
    → IsComputed does.ShiftRightUnsigned y x (cast_signed w32 (cast_unsigned w32 r))
right_unsigned_is y x r k n m q p fits e f g h = (
  shifted_right_unsigned w32 32 y x,
  refl,
  to_z-of_z w32 r fits
      ∙ h
      ∙ ap (cast_signed w32) (g ∙ ap (λ (j : ℕ). j / 2 ^ (k % 32)) (f ∙ ap (cast_unsigned w32) (to_z-of_z w32 x p)) ∙ ap (λ (d : ℕ). cast_unsigned w32 x / 2 ^ d) (distance_is y k q e))
      ∙ word_is (cast_unsigned w32 x / 2 ^ distance 32 y) (omega (arith, div-le_self (cast_unsigned w32 x) (2 ^ distance 32 y), word_fits x p)),
)

-- ---- quotients

-- by the second int it is some number
quotient_some : (y x : ℤ) → y ≢ pos 0 → quotient y x ≡ Some (int_div x y)
quotient_some (pos zero) x some = absurd (some refl)
quotient_some (pos (suc n)) x some = refl
quotient_some (negsuc n) x some = refl

by_minus_one : (x : ℤ) → neg_ℤ x ≡ int_div x (negsuc 0)
by_minus_one (pos n) = ap (λ (k : ℕ). neg_ℤ (pos k)) (omega arith)
by_minus_one (negsuc n) = ap pos (omega arith)

pub minus_one : (y : ℤ) → FitsSigned w32 y → cast_unsigned w32 y ≡ 2 ^ 32 - 1 → y ≡ negsuc 0
minus_one (pos n) h e = absurd (omega (arith, h.sfits))
minus_one (negsuc n) h e = ap negsuc (omega (arith, h.sfits))

pub negated_is : (y x r : ℤ) → FitsSigned w32 y → FitsSigned w32 x → FitsSigned w32 r → cast_unsigned w32 y ≡ 2 ^ 32 - 1
    → r ≡ int_wrapping_neg w32 (cast_signed w32 (cast_unsigned w32 x)) → IsComputed does.Quotient y x (cast_signed w32 (cast_unsigned w32 r))
negated_is y x r q p fits e f =
    let is : cast_signed w32 (cast_unsigned w32 r) ≡ int_wrap w32 (int_div x (negsuc 0)) =
    to_z-of_z w32 r fits ∙ f ∙ ap (int_wrapping_neg w32) (to_z-of_z w32 x p) ∙ wrapping_neg_is w32 x p ∙ ap (int_wrap w32) (by_minus_one x)
    in
    subst (λ (v : ℤ). IsComputed does.Quotient v x (cast_signed w32 (cast_unsigned w32 r))) (sym (minus_one y q e)) (int_div x (negsuc 0), refl, is)

negated_fits : (r a : ℕ) → r ≤ suc a → a < 2 ^ 31 → FitsSigned w32 (neg_ℤ (pos r))
negated_fits zero a le small = record { sfits = omega arith }
negated_fits (suc r) a le small = record { sfits = omega arith }

-- but for that of the least int by -1 it fits
quotient_fits : (y x : ℤ) → y ≢ negsuc 0 → FitsSigned w32 x → FitsSigned w32 (int_div x y)
quotient_fits (pos b) (pos a) other p = record { sfits = omega (arith, div-le_self a b, p.sfits) }
quotient_fits (negsuc b) (pos a) other p = negated_fits (a / suc b) a (omega (arith, div-le_self a (suc b))) p.sfits
quotient_fits (pos b) (negsuc a) other p = negated_fits (suc a / b) a (div-le_self (suc a) b) p.sfits
quotient_fits (negsuc zero) (negsuc a) other p = absurd (other refl)
quotient_fits (negsuc (suc b)) (negsuc a) other p = record { sfits = omega (arith, div-lt_self {n = suc a} {k = suc (suc b)} (omega arith) (omega arith), p.sfits) }

pub quotient_is : (y x : ℤ) → FitsSigned w32 y → FitsSigned w32 x → y ≢ pos 0 → ¬ (cast_unsigned w32 y ≡ 2 ^ 32 - 1)
    → IsComputed does.Quotient y x (cast_signed w32 (cast_unsigned w32 (int_div (cast_signed w32 (cast_unsigned w32 x)) (cast_signed w32 (cast_unsigned w32 y)))))
quotient_is y x q p some other =
    let fits = quotient_fits y x (λ e. other (ap (cast_unsigned w32) e)) p in
    (int_div x y, quotient_some y x some, quot_is w32 x y p q fits ∙ sym (int_wrap_fits w32 (int_div x y) fits))
