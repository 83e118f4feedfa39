use Rattle.circuit_build.proofs.Steps.{next, so}
use Rattle.machine_circuit.proofs.port.next_count.Goals as goal
use Rattle.std.proofs.Common.{ap, ◌∙◌}
use Rattle.netlist.specs.Meaning.{word_on, bit_of}
use Rattle.std.specs.Prelude.{◌==◌}
use Rattle.circuit_cycles.specs.Words.{stmra, stmwd}
use Rattle.circuit_cycles.specs.Core.{does, goes}
use Rattle.circuit_core.proofs.Choosing.{chosen}
use Rattle.circuit_core.proofs.Acting.{counted_down}

pub returns-clause-gives : goal.returns-clause-gives
returns-clause-gives c =
    so (next (next (next (next (next c.is-is_ready.ensures.gives c.minus-fewer.ensures.gives) c.choose-ticked.ensures.gives) c.choose-gone.ensures.gives) c.choose-written.ensures.gives) c.choose.ensures.gives)
    (λ ws f n core s r w.
    chosen (does stmra core) f.1 r (ap (λ x. word_on ws x) c.constant-of_read.ensures ∙ c.from-2.ensures)
    (chosen (does stmwd core) f.0.1 w (ap (λ x. word_on ws x) c.constant-of_write.ensures ∙ c.from.ensures)
    (chosen (goes core) f.0.0.1 s.goes
    (counted_down core.count 7 s.registers.port.count_fits f.0.0.0.1 (f.0.0.0.0.0 ∙ ap (λ x. bit_of (x == 0)) s.registers.port.count) s.registers.port.count f.0.0.0.0.1 c.args.cycle.now.registers.port.count_width) s.registers.port.count)))
