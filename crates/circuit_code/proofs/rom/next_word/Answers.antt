use Rattle.circuit_build.proofs.Steps.{next, so}
use Rattle.circuit_code.proofs.rom.next_word.Goals as goal
use Rattle.std.proofs.Common.{ap, ◌∙◌}
use Rattle.netlist.specs.Meaning.{bit_of}
use Rattle.std.specs.Prelude.{◌==◌, ◌||◌, slice_index}
use Rattle.circuit_cycles.specs.Core.{byte, dispatches, runs}
use Rattle.circuit_code.proofs.ByteWords.{byte_below, byte_fits}
use Rattle.circuit_core.proofs.Choosing.{chosen, either}

pub returns-clause-gives : goal.returns-clause-gives
returns-clause-gives c =
    so (next (next (next (next (next (next c.is-refills.ensures.gives c.or-moves.ensures.gives) c.choose-moved.ensures.gives) c.rows-rows.ensures.gives) c.table-first.ensures.gives) c.dispatches-dispatches.ensures.gives) c.choose.ensures.gives)
    (λ ws f n core s y.
    chosen (dispatches core) f.1 (f.0.1 n core s)
    (f.0.0.1 ∙ ap (λ x. slice_index c.rows-rows.result.items x) y ∙ f.0.0.0.1.1 (byte core) (byte_below core) (byte_fits core))
    (chosen (runs core || core.refill == 2) f.0.0.0.0.1 (either (runs core) (core.refill == 2) f.0.0.0.0.0.1 s.runs (f.0.0.0.0.0.0 ∙ ap (λ x. bit_of (x == 2)) s.registers.ahead.refill)) s.registers.read_outs.rom s.registers.ahead.word))
