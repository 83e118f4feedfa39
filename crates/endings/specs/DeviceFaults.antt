-- How it ends where a call on a device failed.
use Rattle.device_traits.specs.declared.fault.DeviceFault.{DeviceFault}
use Rattle.device_traits.specs.declared.fault.DeviceFault.TheVariants as faults
use Rattle.endings.specs.declared.outcome.Ending.{Ending}
use Rattle.endings.specs.declared.outcome.Ending.TheVariants.{InputFault, WriteFault}

-- how the call of the program ends; a state that a trace doesn't show is a line that isn't put
abbrev pub fault_ending : DeviceFault → Ending
fault_ending faults.Input = InputFault
fault_ending faults.Output = WriteFault
fault_ending faults.Seen = WriteFault
