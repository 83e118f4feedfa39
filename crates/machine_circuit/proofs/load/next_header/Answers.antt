use Rattle.circuit_build.proofs.Steps.{next, so}
use Rattle.machine_circuit.proofs.load.next_header.Goals as goal
use Rattle.std.proofs.Common.{ap, ◌∙◌}
use Rattle.netlist.specs.Meaning.{word_on, bit_of}
use Rattle.std.specs.Prelude.{◌==◌}
use Rattle.circuit_cycles.specs.Core.{misses}
use Rattle.circuit_core.proofs.Choosing.{chosen}
use Rattle.circuit_core.proofs.Acting.{counted_down}

pub returns-clause-gives : goal.returns-clause-gives
returns-clause-gives c =
    so (next (next (next c.is-no_header.ensures.gives c.minus-fewer.ensures.gives) c.choose-header.ensures.gives) c.choose.ensures.gives)
    (λ ws f n core s l.
    chosen (misses core) f.1 l.misses (ap (λ x. word_on ws x) c.constant.ensures) (counted_down core.header 3 s.registers.method.header_fits f.0.1 (f.0.0.0 ∙ ap (λ x. bit_of (x == 0)) s.registers.method.header) s.registers.method.header f.0.0.1 c.args.cycle.now.registers.method.header_width))
