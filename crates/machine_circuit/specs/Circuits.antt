-- The circuit of a machine with an image in it.
use Rattle.std.specs.Prelude.{ℕ, List}
use Rattle.image_file.specs.Bare.{BareContent}
use Rattle.machine_memory.specs.declared.timing.Config.{Config}
use Rattle.netlist.specs.declared.parts.Netlist.{Netlist}
use Rattle.netlist.specs.WellFormed.{IsNetlist}

-- The netlist is put for a machine with so many on-chip words and these settings, and with the words of a linked image in it. All that this says of it
-- is that it is well formed.
pub record IsCircuitOf (image : List ℕ) (on_chip_words : ℕ) (config : Config) (n : Netlist) : Type 0 where
  pub well_formed : IsNetlist n

-- and so for a bare image
pub record IsBareCircuitOf (image : BareContent) (on_chip_words : ℕ) (config : Config) (n : Netlist) : Type 0 where
  pub well_formed : IsNetlist n
