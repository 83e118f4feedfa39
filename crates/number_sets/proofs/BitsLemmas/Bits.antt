-- Bits among words: what is read, and what a write changes.
use Rattle.std.proofs.Common.{◌≡◌, ◌≢◌, ℕ, zero, suc, ◌⊎◌, ◌+◌, ◌<◌, ◌≤◌, Bool, true, false, eqb, List, [], ◌∷◌, ◌++◌, length, get_or, set, take, drop, take_all, replicate, inl, inr, refl, sym, ap, ap₂, ◌∙◌, subst, arith, bit_or, ◌/◌, ◌%◌, ◌^◌, ◌&&◌, ◌||◌}
use Rattle.std.specs.Prelude.{nat_lt}
use Rattle.std.specs.Int.{bit_at}
use Rattle.std.proofs.lemmas.Bool.{cases_lt, cases_eq, eq-eqb, ne_eqb, lt-ltb, le-ltb, and_left, and_right, or_right}
use Rattle.std.proofs.lemmas.Nat.Bits.{bit_at_or, bit_at-zero, bit_at-lt, bit_at-pow_same, bit_at-pow_other}
use Rattle.std.proofs.lemmas.List.{length-take, get_or-drop, get_or-take, get_or_past, get_or_default, get_or-set_other}
use Rattle.std.proofs.lemmas.Grind.{get_or-set_at}
use Rattle.number_sets.specs.Bits.Bits.{is_set, is_set_from}

-- ---- a bit is read

pub set_some : (row : List ℕ) (c w : ℕ) → w ≡ get_or row (c / 64) 0 → eqb (w / 2 ^ (c % 64) % 2) 1 ≡ is_set row c
unfolding is_set
set_some row c w h = ap (λ x. eqb (bit_at x (c % 64)) 1) h

pub set_none : (row : List ℕ) (c : ℕ) → length row ≤ c / 64 → false ≡ is_set row c
unfolding is_set
set_none row c h = sym (ap (λ x. eqb (bit_at x (c % 64)) 1) (get_or_past row (c / 64) 0 h) ∙ ap (λ x. eqb x 1) (bit_at-zero (c % 64)))

value : (width : ℕ) → (column word : ℕ) → Bool
value w c x = nat_lt (c / 64) w && eqb (bit_at x (c % 64)) 1

value_in : (w c x : ℕ) → c / 64 < w → value w c x ≡ eqb (bit_at x (c % 64)) 1
unfolding value
value_in w c x lt = ap (λ b. b && eqb (bit_at x (c % 64)) 1) (lt-ltb (c / 64) w lt)

value_past : (w c x : ℕ) → w ≤ c / 64 → value w c x ≡ false
unfolding value
value_past w c x le = and_left (nat_lt (c / 64) w) (eqb (bit_at x (c % 64)) 1) (le-ltb (c / 64) w le)

from_value : (w : ℕ) (ws : List ℕ) (s c : ℕ) → is_set_from w ws s c ≡ value w c (get_or ws (s + c / 64) 0)
unfolding is_set_from value
from_value w ws s c = refl

-- a row's words alone
pub row_reads : (w : ℕ) (ws : List ℕ) (s c : ℕ) → is_set_from w ws s c ≡ is_set (take w (drop s ws)) c
unfolding is_set
row_reads w ws s c =
    elim (cases_lt (c / 64) w) [
      | inl lt ↦
          from_value w ws s c ∙ value_in w c (get_or ws (s + c / 64) 0) lt
          ∙ ap (λ x. eqb (bit_at x (c % 64)) 1) (sym (get_or-drop s ws (c / 64) 0) ∙ sym (get_or-take w (drop s ws) (c / 64) 0 lt))
      | inr ge ↦ from_value w ws s c ∙ value_past w c (get_or ws (s + c / 64) 0) ge ∙ set_none (take w (drop s ws)) c (let le = length-take w (drop s ws) in omega (arith, le, ge))
    ]

-- ---- words that read alike have the same bits

abbrev pub ReadsAs : List ℕ → List ℕ → Type 0
ReadsAs vs ws = (i : ℕ) → get_or vs i 0 ≡ get_or ws i 0

zeros_read : (k i : ℕ) → ◌≡◌ {A = ℕ} (get_or (replicate k 0) i 0) 0
zeros_read zero i = refl
zeros_read (suc k) zero = refl
zeros_read (suc k) (suc i) = zeros_read k i

behind_read : (ws : List ℕ) (k i : ℕ) → get_or (ws ++ replicate k 0) i 0 ≡ get_or ws i 0
behind_read [] k i = zeros_read k i
behind_read (w ∷ ws) k zero = refl
behind_read (w ∷ ws) k (suc i) = behind_read ws k i

pub longer_reads : (ws vs : List ℕ) (n k : ℕ) → length ws ≤ n → vs ≡ take n ws ++ replicate k 0 → ReadsAs vs ws
longer_reads ws vs n k le is i = ap (λ xs. get_or xs i 0) is ∙ (ap (λ xs. get_or (xs ++ replicate k 0) i 0) (take_all n ws le) ∙ behind_read ws k i)

pub same_bits : (w : ℕ) (ws vs : List ℕ) → ReadsAs vs ws → (s c : ℕ) → is_set_from w vs s c ≡ is_set_from w ws s c
same_bits w ws vs h s c = from_value w vs s c ∙ (ap (value w c) (h (s + c / 64)) ∙ sym (from_value w ws s c))

pub no_bits : (w : ℕ) (ws : List ℕ) (s c : ℕ) → length ws ≤ s → is_set_from w ws s c ≡ false
unfolding value
no_bits w ws s c le =
    from_value w ws s c ∙ and_right (nat_lt (c / 64) w) (eqb (bit_at (get_or ws (s + c / 64) 0) (c % 64)) 1)
    (ap (λ x. eqb (bit_at x (c % 64)) 1) (get_or_past ws (s + c / 64) 0 (omega (arith, le))) ∙ ap (λ x. eqb x 1) (bit_at-zero (c % 64)))

-- ---- a bit is set

or_false : (b : Bool) → b ≡ (b || false)
or_false true = refl
or_false false = refl

or_bit_set : (v j : ℕ) → bit_at (bit_or v (2 ^ j)) j ≡ 1
or_bit_set v j = let o = bit_at_or v (2 ^ j) j in let one = bit_at-pow_same j in let lt = bit_at-lt v j in omega (arith, o, one, lt)

or_bit_kept : (v k j : ℕ) → j ≢ k → bit_at (bit_or v (2 ^ k)) j ≡ bit_at v j
or_bit_kept v k j other = let o = bit_at_or v (2 ^ k) j in let zero = bit_at-pow_other k j other in omega (arith, o, zero)

-- the words after the write
abbrev pub written : List ℕ → (start column : ℕ) → List ℕ
written ws s c = set ws (s + c / 64) (bit_or (get_or ws (s + c / 64) 0) (2 ^ (c % 64)))

-- as the code writes
pub written_is : (ws : List ℕ) (s c v m : ℕ) → s + c / 64 < length ws → v ≡ get_or ws (s + c / 64) v → m ≡ 2 ^ (c % 64) → set ws (s + c / 64) (bit_or v m) ≡ written ws s c
written_is ws s c v m lt is one = ap₂ (λ (x : ℕ) (y : ℕ). set ws (s + c / 64) (bit_or x y)) (is ∙ sym (get_or_default ws (s + c / 64) 0 v lt)) one

kept_word : (ws : List ℕ) (s c d : ℕ) → s + d / 64 < length ws → c ≢ d → bit_at (get_or (written ws s d) (s + c / 64) 0) (c % 64) ≡ bit_at (get_or ws (s + c / 64) 0) (c % 64)
kept_word ws s c d lt other =
    let v = get_or ws (s + d / 64) 0 in
    elim (cases_eq (s + c / 64) (s + d / 64)) [
      | inl e ↦
          ap (λ x. bit_at x (c % 64)) (get_or-set_at ws (s + d / 64) (s + c / 64) (bit_or v (2 ^ (d % 64))) 0 e lt)
          ∙ (or_bit_kept v (d % 64) (c % 64) (λ f. other (omega (arith, e, f))) ∙ ap (λ k. bit_at (get_or ws k 0) (c % 64)) (sym e))
      | inr o ↦ ap (λ x. bit_at x (c % 64)) (get_or-set_other ws (s + d / 64) (s + c / 64) (bit_or v (2 ^ (d % 64))) 0 o)
    ]

pub write_here : (w : ℕ) (ws : List ℕ) (s c d : ℕ) → d / 64 < w → s + d / 64 < length ws → is_set_from w (written ws s d) s c ≡ (is_set_from w ws s c || eqb c d)
unfolding value
write_here w ws s c d lt within =
    elim (cases_eq c d) [
      | inl e ↦
          subst (λ x. is_set_from w (written ws s d) s x ≡ true) (sym e)
          (from_value w (written ws s d) s d ∙ value_in w d (get_or (written ws s d) (s + d / 64) 0) lt
          ∙ ap (λ x. eqb (bit_at x (d % 64)) 1) (get_or-set_at ws (s + d / 64) (s + d / 64) (bit_or (get_or ws (s + d / 64) 0) (2 ^ (d % 64))) 0 refl within)
          ∙ ap (λ x. eqb x 1) (or_bit_set (get_or ws (s + d / 64) 0) (d % 64)))
          ∙ sym (or_right (is_set_from w ws s c) (eqb c d) (eq-eqb c d e))
      | inr o ↦
          from_value w (written ws s d) s c ∙ (ap (λ x. nat_lt (c / 64) w && eqb x 1) (kept_word ws s c d within o) ∙ sym (from_value w ws s c))
          ∙ or_false (is_set_from w ws s c) ∙ ap (λ b. is_set_from w ws s c || b) (sym (ne_eqb c d o))
    ]

pub write_elsewhere : (w : ℕ) (ws : List ℕ) (s r c d : ℕ) → d / 64 < w → (s + w ≤ r) ⊎ (r + w ≤ s) → is_set_from w (written ws r d) s c ≡ is_set_from w ws s c
write_elsewhere w ws s r c d lt far =
    elim (cases_lt (c / 64) w) [
      | inl l ↦
          from_value w (written ws r d) s c
          ∙ (ap (value w c) (get_or-set_other ws (r + d / 64) (s + c / 64) (bit_or (get_or ws (r + d / 64) 0) (2 ^ (d % 64))) 0
          (λ e. elim far [ inl a ↦ absurd (omega (arith, a, e, l, lt)) | inr b ↦ absurd (omega (arith, b, e, l, lt)) ]))
          ∙ sym (from_value w ws s c))
      | inr ge ↦ from_value w (written ws r d) s c ∙ value_past w c (get_or (written ws r d) (s + c / 64) 0) ge ∙ sym (from_value w ws s c ∙ value_past w c (get_or ws (s + c / 64) 0) ge)
    ]
