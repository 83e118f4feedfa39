use Rattle.std.proofs.Common.{◌≡◌, map, take}
use Rattle.netlist.specs.Evaluation.{ports_of}
use Rattle.netlist.proofs.circuit.all_ports.Given as goal

abbrev pub invariant-loop-m : goal.invariant-loop-m
invariant-loop-m l = l.ports.items ≡ map (ports_of l.ws) (take l.m-index l.memories)
