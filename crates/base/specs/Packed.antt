-- Bytes in words.
use Rattle.std.specs.Prelude.{◌≡◌, ℕ, zero, suc, ◌+◌, ◌-◌, ◌*◌, ◌/◌, ◌%◌, ◌^◌, ◌<◌, List, [], ◌∷◌, length, slice_index}
use Rattle.std.specs.Int.{div_ceil}

-- a byte of a word, the high one first
abbrev pub byte_of : ℕ → ℕ → ℕ
byte_of word k = word / 2 ^ (8 * (3 - k)) % 2 ^ 8

-- four bytes as a word, the high one first; those past the end are 0
abbrev pub word_at_bytes : List ℕ → ℕ → ℕ
word_at_bytes bytes k = slice_index bytes k * 2 ^ 24 + slice_index bytes (k + 1) * 2 ^ 16 + slice_index bytes (k + 2) * 2 ^ 8 + slice_index bytes (k + 3)

-- the words of bytes, filled with zeros
abbrev pub words_from : List ℕ → ℕ → ℕ → List ℕ
words_from bytes k zero = []
words_from bytes k (suc n) = word_at_bytes bytes k ∷ words_from bytes (k + 4) n

-- how many words hold so many bytes
abbrev pub words_for : ℕ → ℕ
words_for n = div_ceil n 4

unfoldable pub words_of_bytes : List ℕ → List ℕ
words_of_bytes bytes = words_from bytes 0 (words_for (length bytes))

-- as many words as hold the bytes
abbrev pub PackedHasWords : Type 0
PackedHasWords = (bytes : List ℕ) → length (words_of_bytes bytes) ≡ words_for (length bytes)

-- byte by byte, the words have what was packed, and zeros behind it
abbrev pub PackedHasBytes : Type 0
PackedHasBytes = (bytes : List ℕ) → ((j : ℕ) → slice_index bytes j < 2 ^ 8) → (place : ℕ)
    → byte_of (slice_index (words_of_bytes bytes) (place / 4)) (place % 4) ≡ slice_index bytes place
