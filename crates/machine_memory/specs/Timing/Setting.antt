-- The settings of a machine that nobody chose.
use Rattle.std.specs.Prelude.{◌≡◌}
use Rattle.machine_memory.specs.declared.timing.Config.{Config}

-- 262,144 words; a read waits one cycle and a write two; 16 blocks of 64 words
pub record IsDefault (c : Config) : Type 0 where
  pub memory : c.memory ≡ 262144
  pub read : c.read ≡ 1
  pub write : c.write ≡ 2
  pub blocks : c.blocks ≡ 16
  pub block_words : c.block_words ≡ 64
