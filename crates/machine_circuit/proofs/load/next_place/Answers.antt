use Rattle.circuit_build.proofs.Steps.{next, so}
use Rattle.machine_circuit.proofs.load.next_place.Goals as goal
use Rattle.std.proofs.Common.{ap, ◌∙◌, ◌/◌, ◌%◌, ◌^◌}
use Rattle.circuit_cycles.specs.Core.{switches}
use Rattle.circuit_core.proofs.Choosing.{chosen}
use Rattle.circuit_core.proofs.WordBits.{low}

pub returns-clause-gives : goal.returns-clause-gives
returns-clause-gives c =
    so (next c.part-place.ensures.gives c.choose.ensures.gives)
    (λ ws f n core s l.
    chosen (switches core) f.1 l.switches (low _ core.a c.args.shape.now.memory_bits (f.0 ∙ ap (λ x. x / 2 ^ 0 % 2 ^ c.args.shape.now.memory_bits) s.registers.machine.a)) s.registers.method.place)
