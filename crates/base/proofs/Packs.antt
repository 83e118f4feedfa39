-- Bytes as words, and the bytes of these words.
use Rattle.std.proofs.Common.{◌≡◌, ℕ, zero, suc, ◌+◌, ◌-◌, ◌*◌, ◌/◌, ◌%◌, ◌^◌, ◌<◌, ◌≤◌, List, [], ◌∷◌, ◌++◌, length, refl, sym, ◌∙◌, ap, arith, append-nil, append_assoc, ⊎_elim, ◌⊎◌, inl, inr}
use Rattle.std.specs.Prelude.{slice_index}
use Rattle.std.proofs.Math.Nat.{zero-div}
use Rattle.base.specs.Packed.{byte_of, word_at_bytes, words_from, words_for, words_of_bytes, PackedHasWords, PackedHasBytes}

is_words_from : (bytes : List ℕ) → words_of_bytes bytes ≡ words_from bytes 0 (words_for (length bytes))
unfolding words_of_bytes
is_words_from bytes = refl

abbrev Packing : List ℕ → List ℕ → ℕ → Type 0
Packing bytes words k = words ++ words_from bytes (4 * k) (words_for (length bytes) - k) ≡ words_of_bytes bytes

pub pack-begin : (bytes words : List ℕ) → words ≡ [] → Packing bytes words 0
pack-begin bytes words none =
    let all : words_for (length bytes) - 0 ≡ words_for (length bytes) = omega arith in
    ap (λ (xs : List ℕ). xs ++ words_from bytes 0 (words_for (length bytes) - 0)) none ∙ ap (words_from bytes 0) all ∙ sym (is_words_from bytes)

more : (bytes words : List ℕ) (k m place : ℕ) → place ≡ 4 * k + 4 → (words ++ word_at_bytes bytes (4 * k) ∷ []) ++ words_from bytes place m ≡ words ++ words_from bytes (4 * k) (suc m)
more bytes words k m place at =
    ap (λ p. (words ++ word_at_bytes bytes (4 * k) ∷ []) ++ words_from bytes p m) at
    ∙ append_assoc words (word_at_bytes bytes (4 * k) ∷ []) (words_from bytes (4 * k + 4) m)

pub pack-more : (bytes words new : List ℕ) (k word : ℕ) → k < words_for (length bytes) → word ≡ word_at_bytes bytes (4 * k) → new ≡ words ++ word ∷ [] → Packing bytes words k → Packing bytes new (k + 1)
pack-more bytes words new k word within is pushed so_far =
    let place : 4 * (k + 1) ≡ 4 * k + 4 = omega arith in
    let left : suc (words_for (length bytes) - (k + 1)) ≡ words_for (length bytes) - k = omega (arith, within) in
    ap (λ (xs : List ℕ). xs ++ words_from bytes (4 * (k + 1)) (words_for (length bytes) - (k + 1))) (pushed ∙ ap (λ w. words ++ w ∷ []) is)
    ∙ more bytes words k (words_for (length bytes) - (k + 1)) (4 * (k + 1)) place
    ∙ ap (λ n. words ++ words_from bytes (4 * k) n) left ∙ so_far

pub pack-end : (bytes words : List ℕ) (k : ℕ) → k ≡ words_for (length bytes) → Packing bytes words k → words ≡ words_of_bytes bytes
pack-end bytes words k all so_far =
    let none : words_for (length bytes) - k ≡ 0 = omega (arith, all) in
    sym (append-nil words) ∙ ap (λ n. words ++ words_from bytes (4 * k) n) (sym none) ∙ so_far

count : (bytes : List ℕ) (k n : ℕ) → length (words_from bytes k n) ≡ n
count bytes k zero = refl
count bytes k (suc n) = ap suc (count bytes (k + 4) n)

pub length-words_of_bytes : PackedHasWords
length-words_of_bytes bytes = ap length (is_words_from bytes) ∙ count bytes 0 (words_for (length bytes))

word-within : (bytes : List ℕ) (k n i : ℕ) → i < n → slice_index (words_from bytes k n) i ≡ word_at_bytes bytes (k + 4 * i)
word-within bytes k zero i within = absurd (omega (arith, within))
word-within bytes k (suc n) zero within = ap (word_at_bytes bytes) (let e : k ≡ k + 4 * 0 = omega arith in e)
word-within bytes k (suc n) (suc i) within = word-within bytes (k + 4) n i (omega (arith, within)) ∙ ap (word_at_bytes bytes) (let e : k + 4 + 4 * i ≡ k + 4 * suc i = omega arith in e)

word-past : (bytes : List ℕ) (k n i : ℕ) → n ≤ i → slice_index (words_from bytes k n) i ≡ 0
word-past bytes k zero i past = refl
word-past bytes k (suc n) zero past = absurd (omega (arith, past))
word-past bytes k (suc n) (suc i) past = word-past bytes (k + 4) n i (omega (arith, past))

byte-past : (bytes : List ℕ) (k : ℕ) → length bytes ≤ k → slice_index bytes k ≡ 0
byte-past [] k past = refl
byte-past (b ∷ bytes) zero past = absurd (omega (arith, past))
byte-past (b ∷ bytes) (suc k) past = byte-past bytes k (omega (arith, past))

-- the bytes of a word of four bytes
abbrev four : (b0 b1 b2 b3 : ℕ) → ℕ
four b0 b1 b2 b3 = b0 * 2 ^ 24 + b1 * 2 ^ 16 + b2 * 2 ^ 8 + b3

byte_of-four : (b0 b1 b2 b3 : ℕ) → b0 < 2 ^ 8 → b1 < 2 ^ 8 → b2 < 2 ^ 8 → b3 < 2 ^ 8
    → (byte_of (four b0 b1 b2 b3) 0 ≡ b0) × (byte_of (four b0 b1 b2 b3) 1 ≡ b1) × (byte_of (four b0 b1 b2 b3) 2 ≡ b2) × (byte_of (four b0 b1 b2 b3) 3 ≡ b3)
byte_of-four b0 b1 b2 b3 s0 s1 s2 s3 = (
  (let e : four b0 b1 b2 b3 / 2 ^ 24 % 2 ^ 8 ≡ b0 = omega (arith, s0, s1, s2, s3) in e),
  (let e : four b0 b1 b2 b3 / 2 ^ 16 % 2 ^ 8 ≡ b1 = omega (arith, s0, s1, s2, s3) in e),
  (let e : four b0 b1 b2 b3 / 2 ^ 8 % 2 ^ 8 ≡ b2 = omega (arith, s0, s1, s2, s3) in e),
  (let e : four b0 b1 b2 b3 / 2 ^ 0 % 2 ^ 8 ≡ b3 = omega (arith, s0, s1, s2, s3) in e),
)

byte_of-word : (bytes : List ℕ) (q k : ℕ) → ((j : ℕ) → slice_index bytes j < 2 ^ 8) → k < 4 → byte_of (word_at_bytes bytes q) k ≡ slice_index bytes (q + k)
byte_of-word bytes q zero small within = (byte_of-four _ _ _ _ (small q) (small (q + 1)) (small (q + 2)) (small (q + 3))).0 ∙ ap (slice_index bytes) (let e : q ≡ q + 0 = omega arith in e)
byte_of-word bytes q (suc zero) small within = (byte_of-four _ _ _ _ (small q) (small (q + 1)) (small (q + 2)) (small (q + 3))).1
byte_of-word bytes q (suc (suc zero)) small within = (byte_of-four _ _ _ _ (small q) (small (q + 1)) (small (q + 2)) (small (q + 3))).2
byte_of-word bytes q (suc (suc (suc zero))) small within = (byte_of-four _ _ _ _ (small q) (small (q + 1)) (small (q + 2)) (small (q + 3))).3
byte_of-word bytes q (suc (suc (suc (suc k)))) small within = absurd (omega (arith, within))

below_or_from : (k c : ℕ) → (k < c) ⊎ (c ≤ k)
below_or_from k zero = inr (omega arith)
below_or_from zero (suc c) = inl (omega arith)
below_or_from (suc k) (suc c) = ⊎_elim (λ below. inl (omega (arith, below))) (λ from. inr (omega (arith, from))) (below_or_from k c)

none : (k : ℕ) → byte_of 0 k ≡ 0
none k = ap (λ q. q % 2 ^ 8) (zero-div (2 ^ (8 * (3 - k))))

-- the bytes of packed words are the bytes that were packed
pub byte_of-packed : PackedHasBytes
byte_of-packed bytes small place =
    let n : ℕ = words_for (length bytes) in
    let split : 0 + 4 * (place / 4) + place % 4 ≡ place = omega arith in
    let word = ap (λ (ws : List ℕ). slice_index ws (place / 4)) (is_words_from bytes) in
    ap (λ w. byte_of w (place % 4)) word
    ∙ ⊎_elim
    (λ within. ap (λ w. byte_of w (place % 4)) (word-within bytes 0 n (place / 4) within) ∙ byte_of-word bytes (0 + 4 * (place / 4)) (place % 4) small (omega arith) ∙ ap (slice_index bytes) split)
    (λ past.
    let far : length bytes ≤ place = omega (arith, past) in
    ap (λ w. byte_of w (place % 4)) (word-past bytes 0 n (place / 4) past) ∙ none (place % 4) ∙ sym (byte-past bytes place far))
    (below_or_from (place / 4) n)
