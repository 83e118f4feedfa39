use Rattle.circuit_build.proofs.Steps.{next, so}
use Rattle.machine_circuit.proofs.circuit.is_passed.Goals as goal
use Rattle.std.specs.Prelude.{◌==◌}
use Rattle.netlist.specs.Meaning.{word_on}
use Rattle.circuit_core.proofs.Choosing.{both}

pub returns-clause-gives : goal.returns-clause-gives
returns-clause-gives c =
    so (next c.equal-same.ensures.gives c.and.ensures.gives)
    (λ ws f writes w. both writes (word_on ws c.args.write.now.place == word_on ws c.args.place) f.1 w f.0)
