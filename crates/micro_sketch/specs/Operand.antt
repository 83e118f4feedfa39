-- What the plain opcodes read and what they commonly do (JVM Specification SE 8, chapter 6).
use Rattle.std.specs.Prelude.{ℕ, zero, suc, ◌≡◌, ◌+◌, ◌-◌, ◌*◌, ◌%◌, ◌^◌, ◌<◌, true, ◌∷◌, List, slice_index, slice_set}
use Rattle.jop_core.specs.Operations.{sign_extended16}
use Rattle.micro_sketch.specs.Sketch.{Sketch, abyte, inside}
use Rattle.micro_sketch.specs.Row.{Effect, unchanged, words_of}

-- the place of the byte behind the one at jpc
abbrev pub next_place : ℕ → ℕ
next_place jpc = (jpc + 1) % 2 ^ 16

-- x past so many bytes
abbrev pub past : ℕ → Sketch → Sketch
past zero x = x
past (suc k) x = past k (record x { jpc = next_place x.jpc })

-- the byte behind the opcode, and the 16 and 32 bits there
abbrev pub byte_operand : Sketch → ℕ
byte_operand x = abyte x

abbrev pub two_byte_operand : Sketch → ℕ
two_byte_operand x = abyte x * 2 ^ 8 + abyte (past 1 x)

abbrev pub four_byte_operand : Sketch → ℕ
four_byte_operand x = abyte x * 2 ^ 24 + abyte (past 1 x) * 2 ^ 16 + abyte (past 2 x) * 2 ^ 8 + abyte (past 3 x)

-- with so many operand bytes behind the opcode
abbrev pub behind : ℕ → Sketch → Effect → Effect
behind k x f = record f { jpc = (past k x).jpc }

-- A jump goes from the instruction's own place, which lies just before jpc.
abbrev pub jump_place : Sketch → ℕ
jump_place x = (x.jpc + (2 ^ 16 - 1) + sign_extended16 (two_byte_operand x) % 2 ^ 16) % 2 ^ 16

abbrev pub wide_jump_place : Sketch → ℕ
wide_jump_place x = (x.jpc + (2 ^ 16 - 1) + four_byte_operand x) % 2 ^ 16

-- a word is pushed, and one below it
abbrev pub pushes : ℕ → Sketch → Effect
pushes word x = record (unchanged x) { words = word ∷ words_of x }

abbrev pub pushes_two : (upper lower : ℕ) → Sketch → Effect
pushes_two upper lower x = record (unchanged x) { words = upper ∷ lower ∷ words_of x }

-- the words of the stack become these
abbrev pub leaves : List ℕ → Sketch → Effect
leaves words x = record (unchanged x) { words = words }

-- Local k of the frame, as a place among the words below the stack.
abbrev pub local_place : Sketch → ℕ → ℕ
local_place x k = x.vp + k - 64

abbrev pub local : Sketch → ℕ → ℕ
local x k = slice_index x.deep (local_place x k)

abbrev pub with_local : ℕ → (word : ℕ) → Sketch → List ℕ
with_local k word x = slice_set x.deep (local_place x k) word

abbrev pub loads : ℕ → Sketch → Effect
loads k x = pushes (local x k) x

abbrev pub stores : ℕ → Sketch → Effect
stores k x = record (unchanged x) { words = x.next ∷ x.under; deep = with_local k x.top x }

-- A long is two words, the high one below the low one, and two locals, the high one first.
abbrev pub loads_long : ℕ → Sketch → Effect
loads_long k x = pushes_two (local x (k + 1)) (local x k) x

abbrev pub stores_long : ℕ → Sketch → Effect
stores_long k x = record (unchanged x) { words = x.under; deep = slice_set (with_local (k + 1) x.top x) (local_place x k) x.next }

-- local k lies among the words below the stack
abbrev pub HasLocal : ℕ → Sketch → Type 0
HasLocal k x = inside (x.vp + k) x ≡ true

-- so do both words of a long, whose place is that of a word
pub record HasLong (k : ℕ) (x : Sketch) : Type 0 where
  pub high : HasLocal k x
  pub low : HasLocal (k + 1) x
  pub word : x.vp + k + 1 < 2 ^ 32

-- the place in memory of the pool's entry for an index: it has two words
abbrev pub pool_place : Sketch → ℕ → ℕ
pool_place x index = (slice_index x.low 24 + 2 * index) % 2 ^ 32

abbrev pub pool_word : Sketch → ℕ → ℕ
pool_word x index = slice_index x.memory (pool_place x index)

abbrev pub second_pool_word : Sketch → ℕ → ℕ
second_pool_word x index = slice_index x.memory ((pool_place x index + 1) % 2 ^ 32)
