-- Bytes of the code as ints, and a sum of ints, as words.
use Rattle.std.proofs.Common.{◌≡◌, ℕ, suc, ◌+◌, ◌-◌, ◌%◌, ◌^◌, ◌<◌, Bool, true, false, nat_lt, if◌then◌else◌, ℤ, refl, sym, ◌∙◌, ap, arith}
use Rattle.std.specs.Prelude.{negsuc, ◌+ℤ◌}
use Rattle.std.specs.Int.{w8, w16, w32, int_wrap, cast_signed}
use Rattle.std.specs.Int.RustNames.{FitsSigned}
use Rattle.std.proofs.lemmas.Int.{ints, to_z-of_z, of_z-to_z, wrapping_add-bits}
use Rattle.std.proofs.Math.Facts.{to_z-neg}
use Rattle.std.proofs.lemmas.Bool.{ltb-true, ltb-false}
use Rattle.base.specs.Signed.{sign_extended8, sign_extended16}
use Rattle.image_facts.specs.Words.{int_word}

pub extended8 : (b : ℕ) → b < 2 ^ 8 → sign_extended8 b ≡ int_word (cast_signed w8 b)
extended8 b h = by (nat_lt (b % 2 ^ 8) (2 ^ 7)) refl
  where
    by : (t : Bool) → nat_lt (b % 2 ^ 8) (2 ^ 7) ≡ t → (if t then b % 2 ^ 8 else b % 2 ^ 8 + (2 ^ 32 - 2 ^ 8)) ≡ int_word (cast_signed w8 b)
    by true e = omega (arith, ints, h, ltb-true (b % 2 ^ 8) (2 ^ 7) e)
    by false e =
        let k = 2 ^ 8 - 1 - b in
        let low = ltb-false (b % 2 ^ 8) (2 ^ 7) e in
        let signed : cast_signed w8 b ≡ negsuc k = ap (cast_signed w8) (let same : b ≡ 2 ^ 8 - suc k = omega (arith, h) in same) ∙ to_z-neg w8 k (omega (arith, h, low)) in
        let word : b % 2 ^ 8 + (2 ^ 32 - 2 ^ 8) ≡ int_word (negsuc k) = omega (arith, ints, h) in
        word ∙ ap int_word (sym signed)

pub extended16 : (b : ℕ) → b < 2 ^ 16 → sign_extended16 b ≡ int_word (cast_signed w16 b)
extended16 b h = by (nat_lt (b % 2 ^ 16) (2 ^ 15)) refl
  where
    by : (t : Bool) → nat_lt (b % 2 ^ 16) (2 ^ 15) ≡ t → (if t then b % 2 ^ 16 else b % 2 ^ 16 + (2 ^ 32 - 2 ^ 16)) ≡ int_word (cast_signed w16 b)
    by true e = omega (arith, ints, h, ltb-true (b % 2 ^ 16) (2 ^ 15) e)
    by false e =
        let k = 2 ^ 16 - 1 - b in
        let low = ltb-false (b % 2 ^ 16) (2 ^ 15) e in
        let signed : cast_signed w16 b ≡ negsuc k = ap (cast_signed w16) (let same : b ≡ 2 ^ 16 - suc k = omega (arith, h) in same) ∙ to_z-neg w16 k (omega (arith, h, low)) in
        let word : b % 2 ^ 16 + (2 ^ 32 - 2 ^ 16) ≡ int_word (negsuc k) = omega (arith, ints, h) in
        word ∙ ap int_word (sym signed)

pub fits8 : (b : ℕ) → b < 2 ^ 8 → FitsSigned w32 (cast_signed w8 b)
fits8 b h = omega (arith, ints, h)

pub fits16 : (b : ℕ) → b < 2 ^ 16 → FitsSigned w32 (cast_signed w16 b)
fits16 b h = omega (arith, ints, h)

pub small_word : (x : ℤ) → FitsSigned w32 x → int_word x < 2 ^ 32
small_word x h = omega (arith, ints, h)

pub added : (x y : ℤ) → FitsSigned w32 x → FitsSigned w32 y → (int_word x + int_word y) % 2 ^ 32 ≡ int_word (int_wrap w32 (x +ℤ y))
added x y p q =
    sym (of_z-to_z w32 ((int_word x + int_word y) % 2 ^ 32) (omega arith))
    ∙ ap int_word (wrapping_add-bits w32 (int_word x) (int_word y) (small_word x p) (small_word y q)
    ∙ ap (λ (z : ℤ). int_wrap w32 (z +ℤ cast_signed w32 (int_word y))) (to_z-of_z w32 x p) ∙ ap (λ (z : ℤ). int_wrap w32 (x +ℤ z)) (to_z-of_z w32 y q))
