-- The fault of a part as the fault of a class file.
use Rattle.base.specs.declared.fault.FormatFault.{FormatFault}
use Rattle.base.specs.declared.fault.FormatFault.TheVariants as parts
use Rattle.class_file.specs.declared.fault.ClassFault.{ClassFault}
use Rattle.class_file.specs.declared.fault.ClassFault.TheVariants.{Bad, NoMemory}

abbrev pub class_fault : FormatFault → ClassFault
class_fault parts.Bad = Bad
class_fault parts.NoMemory = NoMemory
