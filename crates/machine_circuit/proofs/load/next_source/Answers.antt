use Rattle.circuit_build.proofs.Steps.{next, so}
use Rattle.machine_circuit.proofs.load.next_source.Goals as goal
use Rattle.std.proofs.Common.{ap, ◌∙◌, ◌%◌, ◌^◌}
use Rattle.circuit_cycles.specs.Core.{fills_word, has_entries}
use Rattle.circuit_core.proofs.Choosing.{chosen}
use Rattle.circuit_core.proofs.WordBits.{low}
use Rattle.machine_circuit.proofs.Moving.{code_counted, counted}
use Rattle.machine_circuit.specs.Shapes.{shape_of}

pub returns-clause-gives : goal.returns-clause-gives
returns-clause-gives c =
    so (next (next (next (next c.part-entries.ensures.gives c.code_place-first.ensures.gives) c.plus-next.ensures.gives) c.choose-source.ensures.gives) c.choose.ensures.gives)
    (λ ws f n core s l.
    let bits = c.args.shape.now.memory_bits in
    let entries = low _ _ bits f.0.0.0.0 ∙ ap (λ x. x % 2 ^ bits) s.registers.read_outs.main in
    let first = code_counted core.place core.main_out bits f.0.0.0.1 s.registers.method.place entries c.requires.place in
    let next = counted core.source 1 bits f.0.0.1 (c.args.cycle.now.registers.method.source_width ∙ c.requires.place) s.registers.method.source in
    chosen (has_entries core) f.1 l.has_entries first (chosen (fills_word (shape_of c.args.shape.now) core) f.0.1 l.writes next s.registers.method.source))
