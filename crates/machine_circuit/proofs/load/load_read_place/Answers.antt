use Rattle.circuit_build.proofs.Steps.{next, so}
use Rattle.machine_circuit.proofs.load.load_read_place.Goals as goal
use Rattle.std.proofs.Common.{ap, ◌∙◌, ◌+◌, ◌%◌, ◌^◌}
use Rattle.circuit_cycles.specs.Core.{has_words}
use Rattle.circuit_core.proofs.Choosing.{chosen}

pub returns-clause-gives : goal.returns-clause-gives
returns-clause-gives c =
    so (next c.plus-third.ensures.gives c.choose.ensures.gives)
    (λ ws f n core s h.
    chosen (has_words core) f.1 h (f.0 ∙ ap (λ x. (x + 3) % 2 ^ c.args.cycle.now.registers.method.place.width) s.registers.method.place) s.registers.method.source)
