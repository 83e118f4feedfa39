-- Words that are chosen by bits, and by the operation of a word.
use Rattle.std.proofs.Common.{◌≡◌, ℕ, zero, suc, ◌-◌, ◌%◌, ◌^◌, ◌<◌, Bool, List, if◌then◌else◌, ◌∙◌, sym, ap, subst, arith, inl, inr}
use Rattle.std.specs.Prelude.{◌==◌, ◌&&◌, ◌||◌, ⊤, bit_and, bit_or, not}
use Rattle.std.proofs.lemmas.Bool.Decides.{eqb_tells}
use Rattle.netlist.specs.Meaning.{bit_of}
use Rattle.circuit_build.proofs.Bits.{and_bits, is_bit, not_bit, or_bits}
use Rattle.circuit_core.specs.Decoding.{picked}

pub chosen : {r bit x y u v : ℕ} (b : Bool) → r ≡ (if bit == 1 then x else y) → bit ≡ bit_of b → x ≡ u → y ≡ v → r ≡ (if b then u else v)
chosen {r} {bit} {x} {y} {u} {v} b e h p q =
    e ∙ ap (λ n. if n == 1 then x else y) h ∙ ap (λ t. if t then x else y) (is_bit b) ∙ ap (λ n. if b then n else y) p ∙ ap (λ n. if b then u else n) q

-- by a bit of another number
pub decided : {r bit x y c u v : ℕ} → r ≡ (if bit == 1 then x else y) → bit ≡ c → x ≡ u → y ≡ v → r ≡ (if c == 1 then u else v)
decided {r} {bit} {x} {y} {c} {u} {v} e h p q =
    e ∙ ap (λ n. if n == 1 then x else y) h ∙ ap (λ n. if c == 1 then n else y) p ∙ ap (λ n. if c == 1 then u else n) q

pub both : {r x y : ℕ} (a b : Bool) → r ≡ bit_and x y → x ≡ bit_of a → y ≡ bit_of b → r ≡ bit_of (a && b)
both {r} {x} {y} a b e p q = e ∙ ap (λ n. bit_and n y) p ∙ ap (λ n. bit_and (bit_of a) n) q ∙ and_bits a b

pub either : {r x y : ℕ} (a b : Bool) → r ≡ bit_or x y → x ≡ bit_of a → y ≡ bit_of b → r ≡ bit_of (a || b)
either {r} {x} {y} a b e p q = e ∙ ap (λ n. bit_or n y) p ∙ ap (λ n. bit_or (bit_of a) n) q ∙ or_bits a b

-- the other way, of one bit
pub negated : {r x w : ℕ} (b : Bool) → r ≡ 2 ^ w - 1 - x → w ≡ 1 → x ≡ bit_of b → r ≡ bit_of (not b)
negated {r} {x} {w} b e one p = e ∙ ap (λ k. 2 ^ k - 1 - x) one ∙ ap (λ n. 2 ^ 1 - 1 - n) p ∙ not_bit b

-- a place of so many
pub placed : {r m n x u : ℕ} (a : ℕ) (t : Bool) → r ≡ (if t then a % m else x) → m ≡ n → x ≡ u → r ≡ (if t then a % n else u)
placed {r} {m} {n} {x} {u} a t e p q = e ∙ ap (λ k. if t then a % k else x) p ∙ ap (λ k. if t then a % n else k) q

-- by the operation of a word
pub picks : {r x y u v : ℕ} (codes : List ℕ) (word : ℕ) → r ≡ picked codes word x y → x ≡ u → y ≡ v → r ≡ picked codes word u v
picks {r} {x} {y} {u} {v} codes word e p q = e ∙ ap (λ n. picked codes word n y) p ∙ ap (λ n. picked codes word u n) q

-- an operation on equal words
pub pair : {x y u v : ℕ} (f : ℕ → ℕ → ℕ) → x ≡ u → y ≡ v → f x y ≡ f u v
pair {x} {y} {u} {v} f p q = ap (λ n. f n y) p ∙ ap (λ n. f u n) q

-- ---- what holds of each of so many numbers

abbrev pub AllBelow : (ℕ → Type 0) → ℕ → Type 0
AllBelow P zero = ⊤
AllBelow P (suc n) = P n × AllBelow P n

pub each : (P : ℕ → Type 0) (n : ℕ) → AllBelow P n → (k : ℕ) → k < n → P k
each P zero all k less = absurd (omega (arith, less))
each P (suc n) all k less =
    elim (eqb_tells k n) [
      | inl same ↦ subst P (sym same.1) all.0
      | inr other ↦ let apart = other.1 in each P n all.1 k (omega (arith, less, apart))
    ]
