use Rattle.std.proofs.Common.{map, take}
use Rattle.netlist.specs.declared.parts.InputPort.{InputPort}
use Rattle.netlist.specs.WellFormed.{Fit}
use Rattle.netlist.proofs.checks.are_input_words.Given as goal

abbrev pub invariant-loop-k : goal.invariant-loop-k
invariant-loop-k l = Fit (map (λ (port : InputPort). port.width) (take l.k l.ports)) (take l.k l.words)
