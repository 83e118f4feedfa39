-- What the bits of a word say.
use Rattle.std.proofs.Common.{◌≡◌, ℕ, zero, suc, ◌/◌, ◌%◌, ◌^◌, ◌<◌, Bool, true, false, ◌∙◌, refl, sym, ap, nat_lt, arith, ltb-true, ltb-false}
use Rattle.std.specs.Prelude.{◌==◌, ◌&&◌, bit_and}
use Rattle.std.proofs.lemmas.Bool.{eq-eqb, ne_eqb}
use Rattle.netlist.specs.Meaning.{bit_of}
use Rattle.circuit_build.proofs.Bits.{and_bits}
use Rattle.circuit_cycles.specs.Words.{has_opd, has_nxt, is_plain, is}

-- the low bits
pub low : (r word k : ℕ) → r ≡ word / 2 ^ 0 % 2 ^ k → r ≡ word % 2 ^ k
low r word k e = let one : word / 2 ^ 0 ≡ word = omega arith in e ∙ ap (λ n. n % 2 ^ k) one

pub code : (r above word : ℕ) → r ≡ bit_of (above == 0) → above ≡ word / 2 ^ 6 % 2 ^ 8 → r ≡ bit_of (is_plain word)
code r above word e a = e ∙ ap (λ n. bit_of (n == 0)) a ∙ ap bit_of (by (nat_lt (word % 2 ^ 14) (2 ^ 6)) refl)
  where
    by : (b : Bool) → nat_lt (word % 2 ^ 14) (2 ^ 6) ≡ b → (word / 2 ^ 6 % 2 ^ 8 == 0) ≡ b
    by true h = eq-eqb (word / 2 ^ 6 % 2 ^ 8) 0 (omega (arith, ltb-true (word % 2 ^ 14) (2 ^ 6) h))
    by false h = ne_eqb (word / 2 ^ 6 % 2 ^ 8) 0 (omega (arith, ltb-false (word % 2 ^ 14) (2 ^ 6) h))

pub number : (r above word first : ℕ) → r ≡ bit_of (above == first) → above ≡ word / 2 ^ 5 % 2 ^ 9 → r ≡ bit_of (word % 2 ^ 14 / 2 ^ 5 == first)
number r above word first e a =
    let same : word / 2 ^ 5 % 2 ^ 9 ≡ word % 2 ^ 14 / 2 ^ 5 = omega arith in e ∙ ap (λ n. bit_of (n == first)) (a ∙ same)

pub target : (r above word first : ℕ) → r ≡ bit_of (above == first) → above ≡ word / 2 ^ 11 % 2 ^ 3 → r ≡ bit_of (word % 2 ^ 14 / 2 ^ 11 == first)
target r above word first e a =
    let same : word / 2 ^ 11 % 2 ^ 3 ≡ word % 2 ^ 14 / 2 ^ 11 = omega arith in e ∙ ap (λ n. bit_of (n == first)) (a ∙ same)

bit : (n : ℕ) → n < 2 → n ≡ bit_of (n == 1)
bit zero h = refl
bit (suc zero) h = refl
bit (suc (suc n)) h = omega (arith, h)

pub opd : (r word : ℕ) → r ≡ word / 2 ^ 14 % 2 ^ 1 → r ≡ bit_of (has_opd word)
opd r word e = e ∙ bit (word / 2 ^ 14 % 2) (omega arith)

pub nxt : (r word : ℕ) → r ≡ word / 2 ^ 15 % 2 ^ 1 → r ≡ bit_of (has_nxt word)
nxt r word e = e ∙ bit (word / 2 ^ 15 % 2) (omega arith)

same_word : (word operation : ℕ) → operation < 2 ^ 6 → (is_plain word && (word % 2 ^ 6 == operation)) ≡ is operation word
same_word word operation h = by (nat_lt (word % 2 ^ 14) (2 ^ 6)) refl
  where
    by : (b : Bool) → nat_lt (word % 2 ^ 14) (2 ^ 6) ≡ b → (b && (word % 2 ^ 6 == operation)) ≡ (word % 2 ^ 14 == operation)
    by true e =
        let same : word % 2 ^ 6 ≡ word % 2 ^ 14 = omega (arith, ltb-true (word % 2 ^ 14) (2 ^ 6) e) in ap (λ n. n == operation) same
    by false e = sym (ne_eqb (word % 2 ^ 14) operation (omega (arith, h, ltb-false (word % 2 ^ 14) (2 ^ 6) e)))

pub plain_is : (r plain named operation word : ℕ) → operation < 2 ^ 6 → r ≡ bit_and plain named → plain ≡ bit_of (is_plain word)
    → named ≡ bit_of (word % 2 ^ 6 == operation) → r ≡ bit_of (is operation word)
plain_is r plain named operation word h e p n =
    e ∙ ap (λ m. bit_and m named) p ∙ ap (λ m. bit_and (bit_of (is_plain word)) m) n ∙ and_bits (is_plain word) (word % 2 ^ 6 == operation)
    ∙ ap bit_of (same_word word operation h)
