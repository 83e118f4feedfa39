-- What a machine's memory and method cache have in common with what is asked of bounds.
use Rattle.std.specs.Prelude.{◌≡◌}
use Rattle.jop_core.specs.State as machine
use Rattle.method_flow.specs.declared.timing.Timing.{Timing}

-- the machine has these waits, and a method cache of these sizes
pub record HasTiming (t : Timing) (m : machine.MachineState) : Type 0 where
  pub read : m.port.read ≡ t.read
  pub write : m.port.write ≡ t.write
  pub blocks : m.cache.blocks ≡ t.blocks
  pub block_words : m.cache.block_words ≡ t.block_words
