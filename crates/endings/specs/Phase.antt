-- What the phases of the top call do.
use Rattle.std.specs.Prelude.{◌≡◌, ℕ, ◌<◌, Bool, List, nat_eq, codes}
use Rattle.std.specs.List.{starts_with}
use Rattle.std.specs.declared.option.Option.{Option}
use Rattle.outside.specs.Outside.{Rose, HasFileLength}
use Rattle.endings.specs.declared.outcome.Refusal.TheVariants.{TooBig}
use Rattle.endings.specs.declared.outcome.Ending.{Ending}
use Rattle.endings.specs.declared.outcome.Ending.TheVariants.{Refused, ReadFault, NoMemory}
use Rattle.machine_memory.specs.declared.timing.Config.{Config}
use Rattle.command_line.specs.declared.command.Settings.{Settings}

-- why the file of a word wasn't read, what is told of it, and its counts of faults
abbrev pub LoadFault : ℕ → Option (List ℕ) → ℕ → ℕ → Ending → Type 0
LoadFault word told before now (Refused (TooBig operand sum)) = (operand ≡ word) × (16777216 < sum) × HasFileLength told sum
LoadFault word told before now ReadFault = Rose before now
LoadFault word told before now NoMemory = Unit {0}
LoadFault word told before now ending = ⊥

-- the bytes begin as those of a linked image
abbrev pub is_linked : List ℕ → Bool
is_linked bytes = starts_with nat_eq bytes (codes "JOPI")

-- the machine has the settings that were given
pub record HasSettings (settings : Settings) (config : Config) : Type 0 where
  pub memory : config.memory ≡ settings.memory
  pub read : config.read ≡ settings.read
  pub write : config.write ≡ settings.write
  pub blocks : config.blocks ≡ settings.blocks
  pub block_words : config.block_words ≡ settings.block_words
