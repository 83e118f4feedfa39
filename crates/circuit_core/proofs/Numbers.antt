-- Words of 32 bits as signed numbers.
use Rattle.std.proofs.Common.{◌≡◌, ℕ, ◌+◌, ◌-◌, ◌*◌, ◌/◌, ◌%◌, ◌^◌, ◌<◌, ◌≤◌, Bool, true, false, ◌∙◌, refl, ap, nat_lt, if◌then◌else◌, bit_and, arith, ltb-true, ltb-false}
use Rattle.std.specs.Prelude.{◌==◌, bit_xor}
use Rattle.std.proofs.Math.Nat.{div-le_self, mod-eq_of_lt}
use Rattle.std.specs.Int.{bit_at}
use Rattle.std.specs.Int.Bits.{xor_add_and}
use Rattle.std.proofs.lemmas.Nat.Bits.{and_pow}
use Rattle.base.specs.Signed.{sign_extended8, sign_extended16, shifted_right, signed_lt, number_of}
use Rattle.netlist.specs.Meaning.{bit_of}
use Rattle.circuit_core.proofs.Choosing.{AllBelow, each}

-- the bit of the sign the other way
flipped : (x : ℕ) → x < 2 ^ 32 → bit_xor x (2 ^ 31) ≡ (x + 2 ^ 31) % 2 ^ 32
flipped x h =
    let bit : bit_at x 31 ≡ x / 2 ^ 31 % 2 = refl in
    let both : bit_xor x (2 ^ 31) + bit_and x (2 ^ 31) * 2 ≡ x + 2 ^ 31 = xor_add_and x (2 ^ 31) in
    let at : bit_and x (2 ^ 31) ≡ bit_at x 31 * 2 ^ 31 = and_pow x 31 in
    omega (arith, h)

pub less : (x y above_x above_y r : ℕ) → x < 2 ^ 32 → y < 2 ^ 32 → above_x ≡ bit_xor x (2 ^ 31) → above_y ≡ bit_xor y (2 ^ 31)
    → r ≡ bit_of (nat_lt above_x above_y) → r ≡ bit_of (signed_lt x y)
less x y above_x above_y r hx hy ax ay is =
    is ∙ ap (λ n. bit_of (nat_lt n above_y)) (ax ∙ flipped x hx) ∙ ap (λ n. bit_of (nat_lt ((x + 2 ^ 31) % 2 ^ 32) n)) (ay ∙ flipped y hy)

-- a bit, and bits like it above so many low ones
abbrev with_sign : (ones width low sign : ℕ) → ℕ
with_sign ones width low sign = (if sign == 1 then ones else 0) * 2 ^ width + low

by_sign : (ones width low sign : ℕ) → (b : Bool) → (sign == 1) ≡ b → with_sign ones width low sign ≡ (if b then ones * 2 ^ width + low else low)
by_sign ones width low sign b e = ap (λ t. (if t then ones else 0) * 2 ^ width + low) e ∙ plain b
  where
    plain : (t : Bool) → (if t then ones else 0) * 2 ^ width + low ≡ (if t then ones * 2 ^ width + low else low)
    plain true = refl
    plain false = let none : 0 * 2 ^ width + low ≡ low = omega arith in none

extended8 : (x : ℕ) → with_sign 0xffffff 8 (x % 2 ^ 8) (x / 2 ^ 7 % 2) ≡ sign_extended8 x
extended8 x = by (nat_lt (x % 2 ^ 8) (2 ^ 7)) refl
  where
    by : (b : Bool) → nat_lt (x % 2 ^ 8) (2 ^ 7) ≡ b
        → with_sign 0xffffff 8 (x % 2 ^ 8) (x / 2 ^ 7 % 2) ≡ (if b then x % 2 ^ 8 else x % 2 ^ 8 + (2 ^ 32 - 2 ^ 8))
    by true e =
        let none : x / 2 ^ 7 % 2 ≡ 0 = omega (arith, ltb-true (x % 2 ^ 8) (2 ^ 7) e) in
        by_sign 0xffffff 8 (x % 2 ^ 8) (x / 2 ^ 7 % 2) false (ap (λ n. n == 1) none)
    by false e =
        let one : x / 2 ^ 7 % 2 ≡ 1 = omega (arith, ltb-false (x % 2 ^ 8) (2 ^ 7) e) in
        let sum : 0xffffff * 2 ^ 8 + x % 2 ^ 8 ≡ x % 2 ^ 8 + (2 ^ 32 - 2 ^ 8) = omega arith in
        by_sign 0xffffff 8 (x % 2 ^ 8) (x / 2 ^ 7 % 2) true (ap (λ n. n == 1) one) ∙ sum

extended16 : (x : ℕ) → with_sign 0xffff 16 (x % 2 ^ 16) (x / 2 ^ 15 % 2) ≡ sign_extended16 x
extended16 x = by (nat_lt (x % 2 ^ 16) (2 ^ 15)) refl
  where
    by : (b : Bool) → nat_lt (x % 2 ^ 16) (2 ^ 15) ≡ b
        → with_sign 0xffff 16 (x % 2 ^ 16) (x / 2 ^ 15 % 2) ≡ (if b then x % 2 ^ 16 else x % 2 ^ 16 + (2 ^ 32 - 2 ^ 16))
    by true e =
        let none : x / 2 ^ 15 % 2 ≡ 0 = omega (arith, ltb-true (x % 2 ^ 16) (2 ^ 15) e) in
        by_sign 0xffff 16 (x % 2 ^ 16) (x / 2 ^ 15 % 2) false (ap (λ n. n == 1) none)
    by false e =
        let one : x / 2 ^ 15 % 2 ≡ 1 = omega (arith, ltb-false (x % 2 ^ 16) (2 ^ 15) e) in
        let sum : 0xffff * 2 ^ 16 + x % 2 ^ 16 ≡ x % 2 ^ 16 + (2 ^ 32 - 2 ^ 16) = omega arith in
        by_sign 0xffff 16 (x % 2 ^ 16) (x / 2 ^ 15 % 2) true (ap (λ n. n == 1) one) ∙ sum

pub byte : (x r low sign above w ones zeros : ℕ) → r ≡ above * 2 ^ w + low → above ≡ (if sign == 1 then ones else zeros) → sign ≡ x / 2 ^ 7 % 2
    → low ≡ x / 2 ^ 0 % 2 ^ 8 → w ≡ 8 → ones ≡ 0xffffff → zeros ≡ 0 → r ≡ sign_extended8 x
byte x r low sign above w ones zeros e a s l width o z =
    let all : low ≡ x % 2 ^ 8 = omega (arith, l) in
    e ∙ ap (λ n. n * 2 ^ w + low) a ∙ ap (λ n. (if sign == 1 then n else zeros) * 2 ^ w + low) o
    ∙ ap (λ n. (if sign == 1 then 0xffffff else n) * 2 ^ w + low) z ∙ ap (λ n. with_sign 0xffffff n low sign) width
    ∙ ap (λ n. with_sign 0xffffff 8 n sign) all ∙ ap (λ n. with_sign 0xffffff 8 (x % 2 ^ 8) n) s ∙ extended8 x

pub half : (x r low sign above w ones zeros : ℕ) → r ≡ above * 2 ^ w + low → above ≡ (if sign == 1 then ones else zeros) → sign ≡ x / 2 ^ 15 % 2
    → low ≡ x / 2 ^ 0 % 2 ^ 16 → w ≡ 16 → ones ≡ 0xffff → zeros ≡ 0 → r ≡ sign_extended16 x
half x r low sign above w ones zeros e a s l width o z =
    let all : low ≡ x % 2 ^ 16 = omega (arith, l) in
    e ∙ ap (λ n. n * 2 ^ w + low) a ∙ ap (λ n. (if sign == 1 then n else zeros) * 2 ^ w + low) o
    ∙ ap (λ n. (if sign == 1 then 0xffff else n) * 2 ^ w + low) z ∙ ap (λ n. with_sign 0xffff n low sign) width
    ∙ ap (λ n. with_sign 0xffff 16 n sign) all ∙ ap (λ n. with_sign 0xffff 16 (x % 2 ^ 16) n) s ∙ extended16 x

-- a bit in a word
pub widened : {r bit : ℕ} (b : Bool) → r ≡ bit → bit ≡ bit_of b → r ≡ number_of b
widened b e is = e ∙ is ∙ number b
  where
    number : (t : Bool) → bit_of t ≡ number_of t
    number true = refl
    number false = refl

-- ---- a shift with the sign

abbrev Shifts : (x k : ℕ) → Type 0
Shifts x k = ((2 ^ 32 - 1) * 2 ^ 32 + x) / 2 ^ k % 2 ^ 32 ≡ 2 ^ 32 - 1 - (2 ^ 32 - 1 - x) / 2 ^ k

each_shift : (x : ℕ) → x < 2 ^ 32 → 2 ^ 31 ≤ x → AllBelow (Shifts x) 32
each_shift x h n = (
  omega (arith, h, n),
  (
    omega (arith, h, n),
    (
      omega (arith, h, n),
      (
        omega (arith, h, n),
        (
          omega (arith, h, n),
          (
            omega (arith, h, n),
            (
              omega
                  (arith, h, n),
              (
                omega (arith, h, n),
                (
                  omega (arith, h, n),
                  (
                    omega (arith, h, n),
                    (
                      omega (arith, h, n),
                      (
                        omega (arith, h, n),
                        (
                          omega (
                            arith,
                            h,
                            n,
                          ),
                          (
                            omega (arith, h, n),
                            (
                              omega (arith, h, n),
                              (
                                omega (arith, h, n),
                                (
                                  omega (arith, h, n),
                                  (
                                    omega (arith, h, n),
                                    (
                                      omega (arith, h, n),
                                      (
                                        omega
                                            (arith, h, n),
                                        (
                                          omega (arith, h, n),
                                          (
                                            omega (arith, h, n),
                                            (
                                              omega (arith, h, n),
                                              (
                                                omega (arith, h, n),
                                                (
                                                  omega (arith, h, n),
                                                  (
                                                    omega (
                                                      arith,
                                                      h,
                                                      n,
                                                    ),
                                                    (
                                                      omega (arith, h, n),
                                                      (
                                                        omega (arith, h, n),
                                                        (
                                                          omega (arith, h, n),
                                                          (
                                                            omega (arith, h, n),
                                                            (
                                                              omega (arith, h, n),
                                                              (
                                                                omega (arith, h, n),
                                                                tt,
                                                              ),
                                                            ),
                                                          ),
                                                        ),
                                                      ),
                                                    ),
                                                  ),
                                                ),
                                              ),
                                            ),
                                          ),
                                        ),
                                      ),
                                    ),
                                  ),
                                ),
                              ),
                            ),
                          ),
                        ),
                      ),
                    ),
                  ),
                ),
              ),
            ),
          ),
        ),
      ),
    ),
  ),
)

-- of a word with a sign, and of one without
by_bit : (x k : ℕ) → x < 2 ^ 32 → k < 32 → (b : Bool) → nat_lt (2 ^ 31 - 1) x ≡ b
    → ((if x / 2 ^ 31 % 2 ^ 1 == 1 then 2 ^ 32 - 1 else 0) * 2 ^ 32 + x) / 2 ^ k % 2 ^ 32 ≡ (if b then 2 ^ 32 - 1 - (2 ^ 32 - 1 - x) / 2 ^ k else x / 2 ^ k)
by_bit x k h small true e =
    let less : 2 ^ 31 - 1 < x = ltb-true (2 ^ 31 - 1) x e in
    let one : x / 2 ^ 31 % 2 ^ 1 ≡ 1 = omega (arith, h, less) in
    ap (λ s. ((if s == 1 then 2 ^ 32 - 1 else 0) * 2 ^ 32 + x) / 2 ^ k % 2 ^ 32) one
    ∙ each (Shifts x) 32 (each_shift x h (omega (arith, less))) k small
by_bit x k h small false e =
    let most : x ≤ 2 ^ 31 - 1 = ltb-false (2 ^ 31 - 1) x e in
    let none : x / 2 ^ 31 % 2 ^ 1 ≡ 0 = omega (arith, most) in
    let plain : 0 * 2 ^ 32 + x ≡ x = omega arith in
    ap (λ s. ((if s == 1 then 2 ^ 32 - 1 else 0) * 2 ^ 32 + x) / 2 ^ k % 2 ^ 32) none ∙ ap (λ y. y / 2 ^ k % 2 ^ 32) plain
    ∙ mod-eq_of_lt (let most = div-le_self x (2 ^ k) in omega (arith, h, most))

pub arithmetic_shift : {r moved joined signs sign by ones zeros w : ℕ} (x y : ℕ) → r ≡ moved / 2 ^ 0 % 2 ^ 32 → moved ≡ joined / 2 ^ by
    → joined ≡ signs * 2 ^ w + x → w ≡ 32 → signs ≡ (if sign == 1 then ones else zeros) → sign ≡ x / 2 ^ 31 % 2 ^ 1 → ones ≡ 2 ^ 32 - 1 → zeros ≡ 0
    → by ≡ y % 2 ^ 5 → x < 2 ^ 32 → r ≡ shifted_right x (y % 32)
arithmetic_shift {r} {moved} {joined} {signs} {sign} {by} {ones} {zeros} {w} x y e m j width s b o z k h =
    let all : signs ≡ (if x / 2 ^ 31 % 2 ^ 1 == 1 then 2 ^ 32 - 1 else 0) =
    s ∙ ap (λ t. if t == 1 then ones else zeros) b ∙ ap (λ t. if x / 2 ^ 31 % 2 ^ 1 == 1 then t else zeros) o
    ∙ ap (λ t. if x / 2 ^ 31 % 2 ^ 1 == 1 then 2 ^ 32 - 1 else t) z in
    let one : moved / 2 ^ 0 ≡ moved = omega arith in
    e ∙ ap (λ t. t % 2 ^ 32) one ∙ ap (λ t. t % 2 ^ 32) m ∙ ap (λ t. joined / 2 ^ t % 2 ^ 32) k ∙ ap (λ t. t / 2 ^ (y % 2 ^ 5) % 2 ^ 32) j
    ∙ ap (λ t. (signs * 2 ^ t + x) / 2 ^ (y % 2 ^ 5) % 2 ^ 32) width ∙ ap (λ t. (t * 2 ^ 32 + x) / 2 ^ (y % 2 ^ 5) % 2 ^ 32) all
    ∙ by_bit x (y % 2 ^ 5) h (omega arith) (nat_lt (2 ^ 31 - 1) x) refl
