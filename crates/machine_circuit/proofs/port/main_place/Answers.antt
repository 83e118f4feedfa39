use Rattle.circuit_build.proofs.Steps.{next, so}
use Rattle.machine_circuit.proofs.port.main_place.Goals as goal
use Rattle.std.proofs.Common.{ap, ◌∙◌, sym, ◌+◌, ◌/◌, ◌%◌, ◌^◌}
use Rattle.std.specs.Prelude.{if◌then◌else◌}
use Rattle.circuit_cycles.specs.Core.{has_words, runs, switches}
use Rattle.circuit_core.proofs.Choosing.{chosen}
use Rattle.circuit_core.proofs.WordBits.{low}
use Rattle.machine_circuit.proofs.Moving.{apart, word_behind}

pub returns-clause-gives : goal.returns-clause-gives
returns-clause-gives c =
    so (next (next (next (next c.part-place.ensures.gives c.plus-first.ensures.gives) c.load_read_place-loaded.ensures.gives) c.choose-asked.ensures.gives) c.choose.ensures.gives)
    (λ ws f n core s l.
    chosen (runs core) f.1 s.runs
    (chosen (switches core) f.0.1 l.switches (word_behind core.a c.args.shape.now.memory_bits f.0.0.0.1 c.part-place.ensures.width (f.0.0.0.0 ∙ ap (λ x. x / 2 ^ 0 % 2 ^ c.args.shape.now.memory_bits) s.registers.machine.a))
    (low _ core.a c.args.shape.now.memory_bits (f.0.0.0.0 ∙ ap (λ x. x / 2 ^ 0 % 2 ^ c.args.shape.now.memory_bits) s.registers.machine.a))
    ∙ sym (apart (switches core) core.a c.args.shape.now.memory_bits))
    (f.0.0.1 n core s l.has_words ∙ ap (λ w. if has_words core then (core.place + 3) % 2 ^ w else core.source) c.requires.place))
