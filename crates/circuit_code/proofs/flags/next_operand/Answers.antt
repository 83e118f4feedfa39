use Rattle.circuit_build.proofs.Steps.{next, so}
use Rattle.circuit_code.proofs.flags.next_operand.Goals as goal
use Rattle.std.proofs.Common.{ap}
use Rattle.netlist.specs.Meaning.{word_on}
use Rattle.std.specs.Prelude.{◌&&◌}
use Rattle.circuit_cycles.specs.Words.{has_opd}
use Rattle.circuit_cycles.specs.Core.{byte, dispatches, runs}
use Rattle.circuit_code.proofs.ByteWords.{appended, byte_fits}
use Rattle.circuit_core.proofs.Choosing.{both, chosen}

pub returns-clause-gives : goal.returns-clause-gives
returns-clause-gives c =
    so (next (next (next (next (next c.part-low.ensures.gives c.join-shifted.ensures.gives) c.and-shifts.ensures.gives) c.choose-taken.ensures.gives) c.dispatches-dispatches.ensures.gives) c.choose.ensures.gives)
    (λ ws f n core s y.
    chosen (dispatches core) f.1 (f.0.1 n core s) (ap (λ x. word_on ws x) c.constant.ensures)
    (chosen (runs core && has_opd core.word) f.0.0.1 (both (runs core) (has_opd core.word) f.0.0.0.1 s.runs s.word.opd)
    (appended core.operand (byte core) (byte_fits core) f.0.0.0.0.1 f.0.0.0.0.0 c.requires s.registers.machine.operand y) s.registers.machine.operand))
