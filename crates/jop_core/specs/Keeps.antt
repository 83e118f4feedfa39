-- What no cycle changes.
use Rattle.std.specs.Prelude.{ℕ, ◌≡◌, ◌+◌, length}
use Rattle.std.specs.declared.option.Option.{Option}
use Rattle.jop_core.specs.State.{MachineState}
use Rattle.jop_core.specs.Cycle.{cycle_of}

-- the number of on-chip words, that of the words of memory, the waits of a read and of a write, the blocks and their words
pub record KeepsSizes (old new : MachineState) : Type 0 where
  pub stack : length new.stack ≡ length old.stack
  pub memory : length new.port.words ≡ length old.port.words
  pub read : new.port.read ≡ old.port.read
  pub write : new.port.write ≡ old.port.write
  pub blocks : new.cache.blocks ≡ old.cache.blocks
  pub block_words : new.cache.block_words ≡ old.cache.block_words

-- a cycle keeps all of these, and the clock rises by one
pub record IsCycle (old new : MachineState) : Type 0 where
  pub sizes : KeepsSizes old new
  pub clock : new.clock ≡ old.clock + 1

abbrev pub CyclesKeep : Type 0
CyclesKeep = (input : Option ℕ) (s : MachineState) → IsCycle s (cycle_of input s)
