-- The shape of a machine: how many words its memories have, and how many bits tell their places apart.
use Rattle.std.specs.Prelude.{ℕ}

pub record Shape : Type 0 where
  -- how many on-chip words there are, and the bits of their places
  pub on_chip_words : ℕ
  pub on_chip_bits : ℕ
  -- how many words the main memory has, and the bits of their places
  pub memory_words : ℕ
  pub memory_bits : ℕ
  -- the cycles that a read and a write wait
  pub read_wait : ℕ
  pub write_wait : ℕ
  -- how many blocks the method cache has, and the bits of their numbers
  pub blocks : ℕ
  pub block_bits : ℕ
  -- how many words a block has, and the bits of their places in it
  pub block_words : ℕ
  pub in_block_bits : ℕ
  -- how many words all blocks have, and the bits of their places
  pub ring_words : ℕ
  pub ring_bits : ℕ
