-- The refusals of the lines, as those of the text of bounds.
use Rattle.bound_texts.specs.declared.sources.SourceFault.{SourceFault}
use Rattle.bound_texts.specs.declared.sources.SourceFault.TheVariants as faults
use Rattle.source_headers.specs.declared.fault.HeaderFault.{HeaderFault}
use Rattle.source_headers.specs.declared.fault.HeaderFault.TheVariants.{BadLine, TwiceLine, NoMemory}

abbrev pub header_fault : SourceFault → HeaderFault
header_fault (faults.Line n) = BadLine n
header_fault (faults.Twice n) = TwiceLine n
header_fault faults.NoMemory = NoMemory
