-- Whether a microinstruction runs.
use Rattle.std.proofs.Common.{◌≡◌, ℕ, zero, suc, ◌+◌, ◌-◌, ◌%◌, ◌^◌, ◌<◌, Bool, true, false, if◌then◌else◌, ◌∙◌, refl, sym, ap, nat_lt, arith}
use Rattle.std.specs.Prelude.{◌==◌, ◌&&◌, ◌||◌, not, bit_and, bit_or}
use Rattle.std.proofs.Math.Nat.{add-mod_right, mod-eq_of_lt}
use Rattle.std.proofs.lemmas.Bool.{lt-ltb, ne_eqb}
use Rattle.netlist.specs.Meaning.{bit_of}
use Rattle.circuit_build.proofs.Bits.{or_bits}
use Rattle.circuit_core.proofs.Choosing.{both, chosen, negated}

pub begun : {r x w : ℕ} (starting : ℕ) → r ≡ 2 ^ w - 1 - x → w ≡ 1 → x ≡ starting → starting < 2 ^ 1 → r ≡ bit_of (starting == 0)
begun {r} {x} {w} starting e one p fits = e ∙ ap (λ k. 2 ^ k - 1 - x) one ∙ ap (λ n. 2 ^ 1 - 1 - n) p ∙ plain starting fits
  where
    plain : (n : ℕ) → n < 2 ^ 1 → 2 ^ 1 - 1 - n ≡ bit_of (n == 0)
    plain zero h = refl
    plain (suc zero) h = refl
    plain (suc (suc n)) h = absurd (omega (arith, h))

pub some : (x : ℕ) → not (x == 0) ≡ nat_lt 0 x
some zero = refl
some (suc x) = ap not (ne_eqb (suc x) 0 (omega arith)) ∙ sym (lt-ltb 0 (suc x) (omega arith))

not_all : (a b c : Bool) → not (a && (b && c)) ≡ (not a || not b || not c)
not_all true true c = refl
not_all true false c = refl
not_all false true c = refl
not_all false false c = refl

pub stalled : {r none load x y z w : ℕ} (refill header left : ℕ) → r ≡ 2 ^ w - 1 - none → w ≡ 1 → none ≡ bit_and x load → load ≡ bit_and y z
    → x ≡ bit_of (refill == 0) → y ≡ bit_of (header == 0) → z ≡ bit_of (left == 0) → r ≡ bit_of (nat_lt 0 refill || nat_lt 0 header || nat_lt 0 left)
stalled refill header left e one n l p q s =
    negated (refill == 0 && (header == 0 && left == 0)) e one (both (refill == 0) (header == 0 && left == 0) n p (both (header == 0) (left == 0) l q s))
    ∙ ap bit_of (not_all (refill == 0) (header == 0) (left == 0))
    ∙ ap (λ t. bit_of (t || not (header == 0) || not (left == 0))) (some refill)
    ∙ ap (λ t. bit_of (nat_lt 0 refill || t || not (left == 0))) (some header) ∙ ap (λ t. bit_of (nat_lt 0 refill || nat_lt 0 header || t)) (some left)

acts : (g s w : Bool) → (g && not (s || w)) ≡ (g && not s && not w)
acts true true w = refl
acts true false w = refl
acts false true w = refl
acts false false w = refl

pub running : {r a rests x y goes w : ℕ} (g s k : Bool) → r ≡ bit_and goes a → a ≡ 2 ^ w - 1 - rests → w ≡ 1 → rests ≡ bit_or x y → goes ≡ bit_of g
    → x ≡ bit_of s → y ≡ bit_of k → r ≡ bit_of (g && not s && not k)
running {r} {a} {rests} {x} {y} g s k e n one o p q t =
    let either : rests ≡ bit_of (s || k) = o ∙ ap (λ m. bit_or m y) q ∙ ap (λ m. bit_or (bit_of s) m) t ∙ or_bits s k in
    both g (not (s || k)) e p (negated (s || k) n one either) ∙ ap bit_of (acts g s k)

-- a number less one, and 0 where it is 0
pub counted_down : {r none x fewer w : ℕ} (n width : ℕ) → n < 2 ^ width → r ≡ (if none == 1 then x else fewer) → none ≡ bit_of (n == 0) → x ≡ n
    → fewer ≡ (x + (2 ^ w - 1)) % 2 ^ w → w ≡ width → r ≡ n - 1
counted_down {r} {none} {x} {fewer} {w} n width small e h p f same =
    chosen (n == 0) e h p (f ∙ ap (λ k. (x + (2 ^ k - 1)) % 2 ^ k) same ∙ ap (λ m. (m + (2 ^ width - 1)) % 2 ^ width) p) ∙ by n small
  where
    by : (m : ℕ) → m < 2 ^ width → (if m == 0 then m else (m + (2 ^ width - 1)) % 2 ^ width) ≡ m - 1
    by zero lt = refl
    by (suc m) lt =
        let more : suc m + (2 ^ width - 1) ≡ m + 2 ^ width = omega (arith, lt) in
        let less : suc m - 1 ≡ m = omega arith in
        ap (λ t. if t then suc m else (suc m + (2 ^ width - 1)) % 2 ^ width) (ne_eqb (suc m) 0 (omega arith))
        ∙ ap (λ k. k % 2 ^ width) more ∙ add-mod_right m (2 ^ width) ∙ mod-eq_of_lt (omega (arith, lt)) ∙ sym less
