use Rattle.circuit_build.proofs.Steps.{next, so}
use Rattle.machine_circuit.proofs.circuit.set_rom.Goals as goal

pub returns-clause-gives : goal.returns-clause-gives
returns-clause-gives c =
    so (next (next (next c.next_mpc-mpc.ensures.gives c.next_word-word.ensures.gives) c.next_refill-refill.ensures.gives) c.rom_place-place.ensures.gives)
    (λ ws f. f.0.0.1)
