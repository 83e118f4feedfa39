-- A bare image begins with words that fit.
use Rattle.std.proofs.Common.{ℕ, zero, suc, ◌+◌, ◌^◌, ◌<◌, ◌≤◌, List, [], length, All, arith}
use Rattle.std.specs.Prelude.{slice_index}
use Rattle.std.proofs.lemmas.Nat.{pow_pos}
use Rattle.std.proofs.lemmas.Grind.{div_ceil_times}
use Rattle.std.proofs.lemmas.List.Elements.{All-cons}
use Rattle.base.specs.Packed.{word_at_bytes, words_from, words_for, words_of_bytes}
use Rattle.base.proofs.Packs.{length-words_of_bytes}
use Rattle.circuit_cycles.specs.Fits.{IsWord, BareStartsFit}

no_words : All IsWord []
no_words = λ k d low. absurd (omega (arith, low))

-- four bytes make a word
packed : (bytes : List ℕ) (k n : ℕ) → ((i : ℕ) → slice_index bytes i < 2 ^ 8) → All IsWord (words_from bytes k n)
packed bytes k zero h = no_words
packed bytes k (suc n) h =
    let one = h k in
    let two = h (k + 1) in
    let three = h (k + 2) in
    let four = h (k + 3) in
    All-cons IsWord (word_at_bytes bytes k) (words_from bytes (k + 4) n) (omega (arith, one, two, three, four)) (packed bytes (k + 4) n h)

code_fits : (bytes : List ℕ) → ((i : ℕ) → slice_index bytes i < 2 ^ 8) → All IsWord (words_of_bytes bytes)
unfolding words_of_bytes
code_fits bytes h = packed bytes 0 (words_for (length bytes)) h

few : (bytes : List ℕ) → length bytes ≤ 4096 → length (words_of_bytes bytes) < 2 ^ 16
few bytes short =
    let long = length-words_of_bytes bytes in
    let ceil = (div_ceil_times (length bytes) 4 (omega arith)).1 in
    omega (arith, long, ceil, short)

pub bare_starts_fit : BareStartsFit
bare_starts_fit shape image is =
    let frame = is.frame in
    record {
      image = no_words;
      code = code_fits image.code is.bytes;
      few_words = few image.code is.short;
      boot = pow_pos shape.memory_bits;
      boot_word = omega arith;
      frame = omega (arith, frame);
      pool = omega arith;
      raise_list = omega arith;
    }
