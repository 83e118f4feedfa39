use Rattle.circuit_build.proofs.Steps.{next, so}
use Rattle.circuit_code.proofs.rom.next_refill.Goals as goal
use Rattle.std.proofs.Common.{ap, ◌∙◌}
use Rattle.netlist.specs.Meaning.{word_on, bit_of}
use Rattle.std.specs.Prelude.{◌==◌}
use Rattle.circuit_cycles.specs.Core.{is_taken}
use Rattle.circuit_core.proofs.Acting.{counted_down}
use Rattle.circuit_core.proofs.Choosing.{chosen}

pub returns-clause-gives : goal.returns-clause-gives
returns-clause-gives c =
    so (next (next (next (next c.is_taken-taken.ensures.gives c.is-is_none.ensures.gives) c.minus-fewer.ensures.gives) c.choose-left.ensures.gives) c.choose.ensures.gives)
    (λ ws f n core s.
    chosen (is_taken core) f.1 (f.0.0.0.0 n core s) (ap (λ x. word_on ws x) c.constant.ensures)
    (counted_down core.refill 2 s.registers.ahead.refill_fits f.0.1 (f.0.0.0.1 ∙ ap (λ x. bit_of (x == 0)) s.registers.ahead.refill) s.registers.ahead.refill f.0.0.1 c.args.cycle.now.registers.ahead.refill_width))
