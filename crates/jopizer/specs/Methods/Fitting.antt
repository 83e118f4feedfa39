-- The codes of a program, in a cache of so many blocks of so many words.
use Rattle.std.specs.Prelude.{◌≡◌, ℕ, ◌<◌, ◌≤◌, length, Option, Some, None, IfSome, IsSomeAnd}
use Rattle.base.specs.Packed.{words_for}
use Rattle.method_cache.specs.Contents.{blocks_for}
use Rattle.bytecode_model.specs.Program.{Program, Body, body_of}
use Rattle.jopizer.specs.declared.methods.fitting.TooLong.{TooLong}

abbrev pub code_blocks : (block_words : ℕ) → Body → ℕ
code_blocks block_words b = blocks_for block_words (words_for (length b.code))

-- the code of the method, if it has code, takes at most so many blocks
abbrev pub MethodFits : Program → (blocks block_words : ℕ) → (method : ℕ) → Type 0
MethodFits P blocks block_words m = IfSome (body_of P m) (λ b. code_blocks block_words b ≤ blocks)

-- the code of this method takes these blocks, which are more, and the codes of the methods before it fit
pub record IsFirst (P : Program) (blocks block_words : ℕ) (t : TooLong) : Type 0 where
  pub code : IsSomeAnd (body_of P t.method) (λ b. t.blocks ≡ code_blocks block_words b)
  pub more : blocks < t.blocks
  pub before : (m : ℕ) → m < t.method → MethodFits P blocks block_words m

-- the first method whose code doesn't fit; where there is none, each fits
abbrev pub IsFirstTooLong : Program → (blocks block_words : ℕ) → Option TooLong → Type 0
IsFirstTooLong P blocks block_words None = (m : ℕ) → MethodFits P blocks block_words m
IsFirstTooLong P blocks block_words (Some t) = IsFirst P blocks block_words t
