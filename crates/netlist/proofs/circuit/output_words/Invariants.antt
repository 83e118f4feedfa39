use Rattle.std.proofs.Common.{◌≡◌, map, take}
use Rattle.netlist.specs.declared.parts.OutputPort.{OutputPort}
use Rattle.netlist.specs.Meaning.{word_on}
use Rattle.netlist.proofs.circuit.output_words.Given as goal

abbrev pub invariant-loop-port : goal.invariant-loop-port
invariant-loop-port l = l.words.items ≡ map (λ (port : OutputPort). word_on l.ws port.net) (take l.port-index l.outputs)
