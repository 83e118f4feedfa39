-- The words of the ROM, by their addresses.
use Rattle.std.proofs.Common.{◌≡◌, ℕ, zero, suc, ◌^◌, ◌<◌, Bool, true, List, [], ◌∷◌, get_or, Option, Some, None, is_some, nat_lt, refl, sym, ap, ◌∙◌, arith, ltb-true}
use Rattle.std.specs.Prelude.{◌&&◌}
use Rattle.std.proofs.lemmas.Bool.{and_parts}
use Rattle.microcode.specs.declared.TheConstants.{WORDS}
use Rattle.microcode.specs.declared.isa.Body.{Body}
use Rattle.microcode.specs.declared.isa.Body.TheVariants.{Plain, Stm, Ldm, Ldi, Bz, Bnz, Jmp}
use Rattle.microcode.specs.declared.isa.Micro.{Micro}
use Rattle.microcode.specs.Isa.Words.{micro_of}
use Rattle.circuit_cycles.specs.Words.{bits_of}
use Rattle.circuit_cycles.proofs.Signals.{IsSaid, Says, is_said}

abbrev are_words : List ℕ → Bool
are_words [] = true
are_words (word ∷ words) = nat_lt word (2 ^ 16) && is_some (micro_of word) && are_words words

-- the microinstruction that a word spells
pub record Row (word : ℕ) : Type 0 where
  pub low : word < 2 ^ 16
  pub micro : Micro
  pub spells : micro_of word ≡ Some micro
  pub said : IsSaid word micro

row_of : (word : ℕ) → nat_lt word (2 ^ 16) ≡ true → is_some (micro_of word) ≡ true → Row word
row_of word low some = by (micro_of word) refl some
  where
    by : (o : Option Micro) → micro_of word ≡ o → is_some o ≡ true → Row word
    by None e h = let bad : ⊥ = cc in absurd bad
    by (Some m) e h = record { low = ltb-true word (2 ^ 16) low; micro = m; spells = e; said = is_said word m (ltb-true word (2 ^ 16) low) e }

row_in : (words : List ℕ) (i : ℕ) → are_words words ≡ true → Row (get_or words i 0)
row_in [] i h = row_of 0 refl refl
row_in (word ∷ words) zero h =
    let parts = and_parts (nat_lt word (2 ^ 16) && is_some (micro_of word)) (are_words words) h in
    let own = and_parts (nat_lt word (2 ^ 16)) (is_some (micro_of word)) parts.0 in
    row_of word own.0 own.1
row_in (word ∷ words) (suc i) h = row_in words i (and_parts (nat_lt word (2 ^ 16) && is_some (micro_of word)) (are_words words) h).1

-- each address has one
pub row : (address : ℕ) → Row (get_or WORDS address 0)
row address = row_in WORDS address refl

-- a code below that of the last operation is a plain word's
pub plain_body : (word code : ℕ) (body : Body) → Says word body → bits_of word ≡ code → code < 48 → body ≡ Plain code
plain_body word code (Plain other) said bits low = ap (λ k. Plain k) (sym said.1 ∙ bits)
plain_body word code (Stm place) said bits low = let far = said.3 in absurd (omega (arith, far, bits, low))
plain_body word code (Ldm place) said bits low = let far = said.3 in absurd (omega (arith, far, bits, low))
plain_body word code (Ldi number) said bits low = let far = said.3 in absurd (omega (arith, far, bits, low))
plain_body word code (Bz to) said bits low = let far = said.3 in absurd (omega (arith, far, bits, low))
plain_body word code (Bnz to) said bits low = let far = said.3 in absurd (omega (arith, far, bits, low))
plain_body word code (Jmp to) said bits low = let far = said.3 in absurd (omega (arith, far, bits, low))
