-- Why a method has no frames.
use Rattle.base.specs.declared.fault.FormatFault.{FormatFault}
use Rattle.base.specs.declared.fault.FormatFault.TheVariants as format
use Rattle.frame_types.specs.declared.types.MapFault.{MapFault}
use Rattle.frame_types.specs.declared.types.MapFault.TheVariants.{Bad, NoMemory}

-- what isn't of the format breaks the rules at place 0
abbrev pub fault_at_start : FormatFault → MapFault
fault_at_start format.Bad = Bad 0
fault_at_start format.NoMemory = NoMemory
