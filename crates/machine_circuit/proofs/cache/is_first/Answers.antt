use Rattle.circuit_build.proofs.Steps.{so}
use Rattle.machine_circuit.proofs.cache.is_first.Goals as goal
use Rattle.std.proofs.Common.{◌∙◌}
use Rattle.std.specs.Prelude.{◌==◌}
use Rattle.netlist.specs.Meaning.{bit_of}
use Rattle.circuit_core.proofs.Choosing.{pair}

pub returns-clause-gives : goal.returns-clause-gives
returns-clause-gives c = so c.equal.ensures.gives (λ ws f core m. f ∙ pair (λ x y. bit_of (x == y)) m.left m.words)
