use Rattle.std.proofs.Common.{◌≡◌, map, take}
use Rattle.std.specs.List.{zip}
use Rattle.netlist.specs.Meaning.{first_ram}
use Rattle.netlist.proofs.circuit.first_memories.Given as goal

abbrev pub invariant-loop-k : goal.invariant-loop-k
invariant-loop-k l = l.rams.items ≡ map first_ram (take l.k (zip l.memories l.unknown))
