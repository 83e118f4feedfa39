use Rattle.circuit_build.proofs.Steps.{next, so}
use Rattle.circuit_code.proofs.rom.next_a_taken.Goals as goal
use Rattle.circuit_cycles.specs.Words.{is_ldi}
use Rattle.circuit_core.proofs.Choosing.{chosen}
use Rattle.circuit_code.proofs.Addresses.{summed}

pub returns-clause-gives : goal.returns-clause-gives
returns-clause-gives c =
    so (next c.add-sum.ensures.gives c.choose.ensures.gives)
    (λ ws f n core s.
    chosen (is_ldi core.word) f.1 s.word.is_ldi s.loaded
    (summed core.b core.a 32 f.0 c.args.cycle.now.registers.machine.b_width s.registers.machine.b s.registers.machine.a))
