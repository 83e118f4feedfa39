use Rattle.circuit_build.proofs.Steps.{next, so}
use Rattle.circuit_core.proofs.pushed.from_outside.Goals as goal
use Rattle.std.proofs.Common.{[], ◌∷◌, refl}
use Rattle.circuit_core.proofs.Choosing.{picks}

pub returns-clause-gives : goal.returns-clause-gives
returns-clause-gives c =
    so (next c.choose-read.ensures.gives c.choose.ensures.gives)
    (λ ws f n core s.
    picks (2 ∷ []) core.word (f.1 core.word s.word) s.registers.machine.a (picks (40 ∷ []) core.word (f.0 core.word s.word) s.registers.port.value refl))
