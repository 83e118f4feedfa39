-- How many bits tell places apart.
use Rattle.std.proofs.Common.{◌≡◌, ℕ, suc, ◌+◌, ◌-◌, ◌*◌, ◌^◌, ◌<◌, ◌≤◌, ◌∙◌, ap, subst, sym, inl, inr, arith}
use Rattle.std.specs.Prelude.{max}
use Rattle.std.specs.Int.Count.{count_leading_zeros}
use Rattle.std.proofs.Math.Nat.{le-max_left, le-max_right, max-le, pow-suc}
use Rattle.std.proofs.Math.Pow.{pow_mono}
use Rattle.std.proofs.lemmas.Nat.{leading_length, mul-le, pow_pos}
use Rattle.std.proofs.lemmas.Bool.{cases_lt}
use Rattle.machine_memory.specs.Stack.Size.{IsSize}
use Rattle.circuit_core.specs.Places.{TellsApart}

-- Fewer bits than the greatest place has don't tell them apart.
no_fewer : (places most m fewer : ℕ) → most ≡ places - 1 → 2 ^ m ≤ 2 * most + 1 → places ≤ 2 ^ fewer → fewer < m → ⊥
no_fewer places most m fewer e long enough less =
    let more : 2 ^ suc fewer ≤ 2 ^ m = pow_mono (omega (arith, less)) in
    let twice : 2 ^ suc fewer ≡ 2 ^ fewer * 2 = pow-suc 2 fewer in
    let some : 0 < 2 ^ fewer = pow_pos fewer in
    omega (arith, e, long, enough, more, twice, some)

with_length : (places most m : ℕ) → most ≡ places - 1 → most < 2 ^ m → 2 ^ m ≤ 2 * most + 1 → TellsApart (max m 1) places
with_length places most m e fits long = record {
  some = le-max_right m 1;
  enough = let more : 2 ^ m ≤ 2 ^ max m 1 = pow_mono (le-max_left m 1) in omega (arith, e, fits, more);
  least = λ fewer one enough. max-le (by fewer enough) one;
}
  where
    by : (fewer : ℕ) → places ≤ 2 ^ fewer → m ≤ fewer
    by fewer enough = elim (cases_lt fewer m) [ inl less ↦ absurd (no_fewer places most m fewer e long enough less) | inr le ↦ le ]

pub tells_apart : (places most bits : ℕ) → places < 2 ^ 32 → most ≡ places - 1 → bits ≡ max (32 - count_leading_zeros 32 most) 1 → TellsApart bits places
tells_apart places most bits small same e =
    let (m, sum, fits, long) = leading_length 32 most (omega (arith, small, same)) in
    let length : m ≡ 32 - count_leading_zeros 32 most = omega (arith, sum) in
    subst (λ b. TellsApart b places) (sym e) (subst (λ k. TellsApart (max k 1) places) length (with_length places most m same fits long))

-- bits of memories that have no more and no fewer words
pub few_bits : {bits places : ℕ} (most : ℕ) → TellsApart bits places → 1 ≤ most → places ≤ 2 ^ most → bits ≤ most
few_bits most t some few = t.least most some few

pub some_bits : {bits places : ℕ} → TellsApart bits places → 80 ≤ places → 6 ≤ bits
some_bits {bits} {places} t some = elim (cases_lt bits 6) [ inl less ↦ absurd (no less) | inr le ↦ le ]
  where
    no : bits < 6 → ⊥
    no less = let most : 2 ^ bits ≤ 2 ^ 5 = pow_mono {i = bits} {j = 5} (omega (arith, less)) in omega (arith, t.enough, some, most)

pub size_range : (n : ℕ) → IsSize n → (80 ≤ n) × (n ≤ 1024)
size_range n (inl e) = (omega (arith, e), omega (arith, e))
size_range n (inr (inl e)) = (omega (arith, e), omega (arith, e))
size_range n (inr (inr e)) = (omega (arith, e), omega (arith, e))

pub ring_range : (blocks words : ℕ) → blocks ≤ 256 → words ≤ 1024 → blocks * words ≤ 2 ^ 18
ring_range blocks words b w = let most : blocks * words ≤ 256 * 1024 = mul-le blocks words 256 1024 b w in omega (arith, most)

-- A power of two has as many places as its bits tell apart.
exact : (bits n k : ℕ) → TellsApart bits n → n ≡ 2 ^ k → 1 ≤ k → 2 ^ bits ≡ n
exact bits n k t e some = ap (λ b. 2 ^ b) same ∙ sym e
  where
    most : bits ≤ k
    most = t.least k some (omega (arith, e))

    no : bits < k → ⊥
    no less =
        let more : 2 ^ suc bits ≤ 2 ^ k = pow_mono (omega (arith, less)) in
        let twice : 2 ^ suc bits ≡ 2 ^ bits * 2 = pow-suc 2 bits in
        let pos : 0 < 2 ^ bits = pow_pos bits in
        omega (arith, e, t.enough, more, twice, pos)

    same : bits ≡ k
    same = elim (cases_lt bits k) [ inl less ↦ absurd (no less) | inr le ↦ omega (arith, most, le) ]

pub exact_places : (bits n : ℕ) → TellsApart bits n → IsSize n → 2 ^ bits ≡ n
exact_places bits n t (inl e) = exact bits n 8 t e (omega arith)
exact_places bits n t (inr (inl e)) = exact bits n 9 t e (omega arith)
exact_places bits n t (inr (inr e)) = exact bits n 10 t e (omega arith)
