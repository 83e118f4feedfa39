-- The division by shifts and subtractions, on numbers.
use Rattle.std.proofs.Common.{◌≡◌, ℕ, suc, ◌+◌, ◌-◌, ◌*◌, ◌/◌, ◌%◌, ◌^◌, ◌<◌, ◌≤◌, Bool, true, false, nat_lt, bit_and, refl, sym, ap, ◌∙◌, subst, arith, ltb-true, ltb-false}
use Rattle.std.proofs.Math.Nat.{mod-eq_of_lt, add-mod_right, div-div-eq-div-mul, div-le_self, div-add-mod, mod-lt, mul-le-mul_left, pow-suc}
use Rattle.std.proofs.lemmas.Nat.{and_mask}
use Rattle.jop_core.specs.Operations.{number_of}
use Rattle.micro_sketch.proofs.PlainRows.DivideTurn.{bit_at, grown, goes_in, taken_off, lengthened, less_one}

pub counted : (k : ℕ) → suc k < 2 ^ 32 → less_one (suc k) ≡ k
counted k h = ap (λ m. m % 2 ^ 32) (let e : suc k + (2 ^ 32 - 1) ≡ k + 2 ^ 32 = omega arith in e) ∙ add-mod_right k (2 ^ 32) ∙ mod-eq_of_lt (omega arith)

pub bit_is : (a k : ℕ) → k < 32 → bit_at a k ≡ (a / 2 ^ k) % 2
bit_is a k h = ap (λ i. bit_and (a / 2 ^ i) 1) (mod-eq_of_lt h) ∙ and_mask (a / 2 ^ k) 1

-- the part of a number above place k, by the part above the next place
pub next_part : (a k : ℕ) → a / 2 ^ k ≡ 2 * (a / 2 ^ suc k) + (a / 2 ^ k) % 2
next_part a k =
    let half : a / 2 ^ k / 2 ≡ a / 2 ^ suc k = div-div-eq-div-mul a (2 ^ k) 2 ∙ ap (λ i. a / i) (sym (pow-suc 2 k)) in
    omega (arith, half, div-add-mod (a / 2 ^ k) 2)

-- doubled and a bit below, where that is a word
pub doubled : (m b : ℕ) → 2 * m + b < 2 ^ 32 → ((m + m) % 2 ^ 32 + b) % 2 ^ 32 ≡ 2 * m + b
doubled m b h =
    let e : m + m ≡ 2 * m = omega arith in
    let small : m + m < 2 ^ 32 = omega arith in
    ap (λ i. (i + b) % 2 ^ 32) (mod-eq_of_lt small) ∙ ap (λ i. (i + b) % 2 ^ 32) e ∙ mod-eq_of_lt h

pub less_zero : (r d : ℕ) → r < 2 ^ 32 → taken_off r d 0 ≡ r
less_zero r d h =
    let none : d * 0 ≡ 0 = omega arith in
    ap (λ i. (r + (2 ^ 32 - i % 2 ^ 32)) % 2 ^ 32) none ∙ add-mod_right r (2 ^ 32) ∙ mod-eq_of_lt h

pub less_divisor : (r d : ℕ) → d ≤ r → r < 2 ^ 32 → taken_off r d 1 ≡ r - d
less_divisor r d l h =
    let one : d * 1 ≡ d = omega arith in
    let e : r + (2 ^ 32 - d) ≡ (r - d) + 2 ^ 32 = omega arith in
    ap (λ i. (r + (2 ^ 32 - i % 2 ^ 32)) % 2 ^ 32) one ∙ ap (λ i. (r + (2 ^ 32 - i)) % 2 ^ 32) (mod-eq_of_lt (omega arith)) ∙ ap (λ i. i % 2 ^ 32) e ∙ add-mod_right (r - d) (2 ^ 32) ∙ mod-eq_of_lt (omega arith)

-- what the dividend's part h has come to: a quotient and a remainder
pub record Divides (h d q r : ℕ) : Type 0 where
  pub sum : h ≡ q * d + r
  pub below : r < d

-- the part, with a bit more
abbrev pub quotient_after : (q r1 d : ℕ) → ℕ
quotient_after q r1 d = lengthened q (goes_in r1 d)

abbrev pub remainder_after : (r1 d : ℕ) → ℕ
remainder_after r1 d = taken_off r1 d (goes_in r1 d)

pub goes_in_by : (r d : ℕ) (b : Bool) → nat_lt r d ≡ b → goes_in r d ≡ (1 + (2 ^ 32 - number_of b)) % 2 ^ 32
goes_in_by r d b e = ap (λ c. (1 + (2 ^ 32 - number_of c)) % 2 ^ 32) e

pub divides_by : (b : Bool) (h d q r1 : ℕ) → nat_lt r1 d ≡ b → h ≡ 2 * q * d + r1 → r1 < 2 * d → r1 < 2 ^ 32 → 2 * q + 1 < 2 ^ 32 → Divides h d (quotient_after q r1 d) (remainder_after r1 d)
divides_by true h d q r1 e s l w v =
    let u = goes_in_by r1 d true e in
    let q' = ap (λ t. lengthened q t) u ∙ doubled q 0 (omega arith) in
    let r' = ap (λ t. taken_off r1 d t) u ∙ less_zero r1 d w in
    let lt : r1 < d = ltb-true r1 d e in
    record {
      sum = s ∙ (let f : 2 * q * d + r1 ≡ (2 * q + 0) * d + r1 = omega arith in f) ∙ sym (ap (λ i. i * d + remainder_after r1 d) q' ∙ ap (λ i. (2 * q + 0) * d + i) r');
      below = subst (λ i. i < d) (sym r') lt;
    }
divides_by false h d q r1 e s l w v =
    let u = goes_in_by r1 d false e in
    let le : d ≤ r1 = ltb-false r1 d e in
    let q' = ap (λ t. lengthened q t) u ∙ doubled q 1 v in
    let r' = ap (λ t. taken_off r1 d t) u ∙ less_divisor r1 d le w in
    let lt : r1 - d < d = omega arith in
    record {
      sum = s ∙ (let f : 2 * q * d + r1 ≡ (2 * q + 1) * d + (r1 - d) = omega arith in f) ∙ sym (ap (λ i. i * d + remainder_after r1 d) q' ∙ ap (λ i. (2 * q + 1) * d + i) r');
      below = subst (λ i. i < d) (sym r') lt;
    }

-- a quotient is no more than what was divided
pub within : (h d q r : ℕ) → Divides h d q r → q ≤ h
within h d q r s =
    let lt = s.below in
    let more : q * 1 ≤ q * d = mul-le-mul_left q (let p : 1 ≤ d = omega arith in p) in
    omega (arith, more, s.sum)

-- a turn
pub turned : (a k d q r : ℕ) → k < 32 → a ≤ 2 ^ 31 → d ≤ 2 ^ 31 → Divides (a / 2 ^ suc k) d q r → let r1 = grown a k r in Divides (a / 2 ^ k) d (quotient_after q r1 d) (remainder_after r1 d)
turned a k d q r kl al dl s =
    let h = a / 2 ^ k in
    let bit = h % 2 in
    let lt = s.below in
    let two : bit < 2 = mod-lt h (omega arith) in
    let r1 : grown a k r ≡ 2 * r + bit = ap (λ i. ((r + r) % 2 ^ 32 + i) % 2 ^ 32) (bit_is a k kl) ∙ doubled r bit (omega arith) in
    let sum : h ≡ 2 * q * d + (2 * r + bit) = next_part a k ∙ ap (λ i. 2 * i + bit) s.sum ∙ (let f : 2 * (q * d + r) + bit ≡ 2 * q * d + (2 * r + bit) = omega arith in f) in
    let some : 2 * (a / 2 ^ suc k) ≤ h = omega (arith, next_part a k) in
    let all : h ≤ a = div-le_self a (2 ^ k) in
    let less : q ≤ a / 2 ^ suc k = within (a / 2 ^ suc k) d q r s in
    subst (λ i. Divides h d (quotient_after q i d) (remainder_after i d)) (sym r1)
    (divides_by (nat_lt (2 * r + bit) d) h d q (2 * r + bit) refl sum (omega arith) (omega arith) (omega arith))
