-- Bits, and words with more or fewer of them.
use Rattle.std.proofs.Common.{◌≡◌, ℕ, suc, ◌+◌, ◌^◌, ◌-◌, ◌<◌, ◌≤◌, Bool, true, false, List, [], ◌∷◌, length, take, refl, sym, ap, ◌∙◌, arith}
use Rattle.std.specs.Prelude.{◌==◌, ◌&&◌, ◌||◌, not, bit_and, bit_or, slice_index_or}
use Rattle.std.specs.List.{list_any}
use Rattle.std.proofs.Math.Seq.{take-suc, take-length}
use Rattle.std.proofs.lemmas.List.Folds.{list_any-append}
use Rattle.netlist.specs.Meaning.{bit_of}

pub and_bits : (a b : Bool) → bit_and (bit_of a) (bit_of b) ≡ bit_of (a && b)
and_bits true true = refl
and_bits true false = refl
and_bits false true = refl
and_bits false false = refl

pub or_bits : (a b : Bool) → bit_or (bit_of a) (bit_of b) ≡ bit_of (a || b)
or_bits true true = refl
or_bits true false = refl
or_bits false true = refl
or_bits false false = refl

pub not_bit : (a : Bool) → 2 ^ 1 - 1 - bit_of a ≡ bit_of (not a)
not_bit true = refl
not_bit false = refl

-- a bit is 1 where it stands for what is true
pub is_bit : (a : Bool) → (bit_of a == 1) ≡ a
is_bit true = refl
is_bit false = refl

-- ---- a test of each word of a list

last_of : (b : Bool) → (b || false) ≡ b
last_of true = refl
last_of false = refl

pub any_of_more : (p : ℕ → Bool) (xs : List ℕ) (k d : ℕ) → k < length xs
    → list_any p (take (k + 1) xs) ≡ (list_any p (take k xs) || p (slice_index_or xs k d))
any_of_more p xs k d lt =
    let up : k + 1 ≡ suc k = omega arith in
    ap (λ m. list_any p (take m xs)) up ∙ ap (λ l. list_any p l) (take-suc xs k d lt)
    ∙ list_any-append p (take k xs) (slice_index_or xs k d ∷ []) ∙ ap (λ b. list_any p (take k xs) || b) (last_of (p (slice_index_or xs k d)))

pub any_step : (p : ℕ → Bool) (words : List ℕ) (k d any is or : ℕ) → or ≡ bit_or any is → any ≡ bit_of (list_any p (take k words))
    → is ≡ bit_of (p (slice_index_or words k d)) → k < length words → or ≡ bit_of (list_any p (take (k + 1) words))
any_step p words k d any is or o a i lt =
    o ∙ ap (λ n. bit_or n is) a ∙ ap (λ n. bit_or (bit_of (list_any p (take k words))) n) i
    ∙ or_bits (list_any p (take k words)) (p (slice_index_or words k d)) ∙ ap bit_of (sym (any_of_more p words k d lt))

pub any_of_all : (p : ℕ → Bool) (words : List ℕ) (k any : ℕ) → any ≡ bit_of (list_any p (take k words)) → length words ≤ k → k ≤ length words
    → any ≡ bit_of (list_any p words)
any_of_all p words k any a le ge =
    let many : k ≡ length words = omega (arith, le, ge) in
    a ∙ ap (λ j. bit_of (list_any p (take j words))) many ∙ ap (λ l. bit_of (list_any p l)) (take-length words)
