use Rattle.circuit_build.proofs.Steps.{next, so}
use Rattle.machine_circuit.proofs.load.next_words.Goals as goal
use Rattle.std.proofs.Common.{ap, ◌∙◌, ◌/◌, ◌%◌, ◌^◌}
use Rattle.circuit_cycles.specs.Core.{has_words, switches}
use Rattle.circuit_core.proofs.Choosing.{chosen}
use Rattle.circuit_core.proofs.WordBits.{low}

pub returns-clause-gives : goal.returns-clause-gives
returns-clause-gives c =
    so (next (next c.part-read.ensures.gives c.choose-kept.ensures.gives) c.choose.ensures.gives)
    (λ ws f n core s l t.
    chosen (switches core) f.1 l.switches t.words (chosen (has_words core) f.0.1 l.has_words (low _ core.main_out 16 (f.0.0 ∙ ap (λ x. x / 2 ^ 0 % 2 ^ 16) s.registers.read_outs.main)) s.registers.method.words))
