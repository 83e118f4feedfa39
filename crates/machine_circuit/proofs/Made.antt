-- What comes of a circuit that is put together.
use Rattle.std.specs.Prelude.{ℕ, List, Result, Ok, Err, IfOk}
use Rattle.netlist.specs.declared.parts.Netlist.{Netlist}
use Rattle.netlist.specs.WellFormed.{IsNetlist}
use Rattle.circuit_build.specs.declared.finishing.BuildFault.{BuildFault}
use Rattle.circuit_build.specs.Parts.{Finished, PartLists}
use Rattle.circuit_build.specs.Wiring.{Wiring}

pub made : (name : List ℕ) (parts : PartLists) (logic : Wiring) (result : Result Netlist BuildFault) → Finished name parts logic result → IfOk result IsNetlist
made name parts logic (Ok n) h = h.3
made name parts logic (Err fault) h = tt

-- what is said of a circuit says it of every one that comes
pub meant : {P Q : Netlist → Type 0} → ((n : Netlist) → P n → Q n) → (result : Result Netlist BuildFault) → IfOk result P → IfOk result Q
meant follows (Ok n) h = follows n h
meant follows (Err fault) h = tt
