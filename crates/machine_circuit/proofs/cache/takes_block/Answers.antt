use Rattle.circuit_build.proofs.Steps.{next, so}
use Rattle.machine_circuit.proofs.cache.takes_block.Goals as goal
use Rattle.std.proofs.Common.{◌∙◌, ap}
use Rattle.std.specs.Prelude.{◌==◌}
use Rattle.netlist.specs.Meaning.{bit_of}
use Rattle.circuit_core.proofs.Choosing.{both}

pub returns-clause-gives : goal.returns-clause-gives
returns-clause-gives c =
    so (next c.is-begins_block.ensures.gives c.and.ensures.gives)
    (λ ws f core fills m w. both fills (core.in_block == 0) f.1 w (f.0 ∙ ap (λ x. bit_of (x == 0)) m.in_block))
