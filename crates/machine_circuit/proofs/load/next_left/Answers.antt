use Rattle.circuit_build.proofs.Steps.{next, so}
use Rattle.machine_circuit.proofs.load.next_left.Goals as goal
use Rattle.std.proofs.Common.{ap, ◌∙◌, ◌/◌, ◌%◌, ◌^◌}
use Rattle.netlist.specs.Meaning.{bit_of}
use Rattle.std.specs.Prelude.{◌==◌}
use Rattle.circuit_cycles.specs.Core.{fills, has_words}
use Rattle.circuit_core.proofs.Choosing.{both, chosen}
use Rattle.circuit_core.proofs.WordBits.{low}
use Rattle.machine_circuit.proofs.Moving.{left_over, some_left}

pub returns-clause-gives : goal.returns-clause-gives
returns-clause-gives c =
    so (next (next (next (next (next (next c.fills-fills.ensures.gives c.is-ends_turn.ensures.gives) c.and-ends.ensures.gives) c.minus-one_less.ensures.gives) c.choose-left.ensures.gives) c.part-read.ensures.gives) c.choose.ensures.gives)
    (λ ws f n core s l.
    chosen (has_words core) f.1 l.has_words (low _ core.main_out 16 (f.0.1 ∙ ap (λ x. x / 2 ^ 0 % 2 ^ 16) s.registers.read_outs.main))
    (left_over core.left (fills core) (core.turn == 0) s.registers.method.left_fits (some_left core) f.0.0.1 (both (fills core) (core.turn == 0) f.0.0.0.0.1 (f.0.0.0.0.0.0 n core s) (f.0.0.0.0.0.1 ∙ ap (λ x. bit_of (x == 0)) s.registers.method.turn))
    s.registers.method.left f.0.0.0.1 c.args.cycle.now.registers.method.left_width))
