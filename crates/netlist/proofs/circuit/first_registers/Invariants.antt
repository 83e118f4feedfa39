use Rattle.std.proofs.Common.{◌≡◌, map, take}
use Rattle.netlist.specs.declared.parts.Register as register
use Rattle.netlist.proofs.circuit.first_registers.Given as goal

abbrev pub invariant-loop-r : goal.invariant-loop-r
invariant-loop-r l = l.words.items ≡ map (λ (r : register.Register). r.first) (take l.r-index l.registers)
