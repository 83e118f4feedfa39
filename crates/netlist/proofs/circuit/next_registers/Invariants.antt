use Rattle.std.proofs.Common.{◌≡◌, map, take}
use Rattle.netlist.specs.declared.parts.Register as register
use Rattle.netlist.specs.Meaning.{word_on}
use Rattle.netlist.proofs.circuit.next_registers.Given as goal

abbrev pub invariant-loop-r : goal.invariant-loop-r
invariant-loop-r l = l.next.items ≡ map (λ (r : register.Register). word_on l.ws r.next) (take l.r-index l.registers)
