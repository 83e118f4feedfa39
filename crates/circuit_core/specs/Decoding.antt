-- Words of the ROM, taken apart.
use Rattle.std.specs.Prelude.{◌≡◌, ℕ, ◌%◌, ◌^◌, Bool, ◌==◌, ◌&&◌, if◌then◌else◌, List}
use Rattle.std.specs.List.{list_any}
use Rattle.netlist.specs.Meaning.{Words, word_on, bit_of}
use Rattle.netlist.specs.declared.net.Net.{Net}
use Rattle.circuit_core.specs.declared.word.Word.{Word}
use Rattle.circuit_cycles.specs.Words.{bits_of, has_opd, has_nxt, is_plain, is_stm, is_ldm, is_ldi, is_bz, is_bnz, is_jmp}

-- the word of an operation with one of these codes
abbrev pub is_any : (codes : List ℕ) (word : ℕ) → Bool
is_any codes word = is_plain word && list_any (λ code. bits_of word == code) codes

-- x where the word is that of an operation with one of these codes, else y
abbrev pub picked : (codes : List ℕ) (word x y : ℕ) → ℕ
picked codes word x y = if is_any codes word then x else y

-- The nets of a decoded word stand for what it says.
pub record Decodes (ws : Words) (net : Word) (word : ℕ) : Type 0 where
  pub is_plain : word_on ws net.is_plain ≡ bit_of (is_plain word)
  pub code : word_on ws net.code ≡ word % 2 ^ 6
  pub is_stm : word_on ws net.is_stm ≡ bit_of (is_stm word)
  pub is_ldm : word_on ws net.is_ldm ≡ bit_of (is_ldm word)
  pub is_ldi : word_on ws net.is_ldi ≡ bit_of (is_ldi word)
  pub number : word_on ws net.number ≡ word % 2 ^ 5
  pub is_bz : word_on ws net.is_bz ≡ bit_of (is_bz word)
  pub is_bnz : word_on ws net.is_bnz ≡ bit_of (is_bnz word)
  pub is_jmp : word_on ws net.is_jmp ≡ bit_of (is_jmp word)
  pub target : word_on ws net.target ≡ word % 2 ^ 11
  pub opd : word_on ws net.opd ≡ bit_of (has_opd word)
  pub nxt : word_on ws net.nxt ≡ bit_of (has_nxt word)

-- The net has this bit of a decoded word.
abbrev pub Tells : Word → Net → (ℕ → Bool) → Words → Type 0
Tells nets net test ws = (word : ℕ) → Decodes ws nets word → word_on ws net ≡ bit_of (test word)
