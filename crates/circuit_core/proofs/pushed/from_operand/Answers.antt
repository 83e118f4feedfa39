use Rattle.circuit_build.proofs.Steps.{next, so}
use Rattle.circuit_core.proofs.pushed.from_operand.Goals as goal
use Rattle.std.proofs.Common.{[], ◌∷◌, ap, ◌∙◌}
use Rattle.circuit_core.proofs.Choosing.{picks}
use Rattle.base.specs.Signed.{sign_extended8, sign_extended16}

pub returns-clause-gives : goal.returns-clause-gives
returns-clause-gives c =
    so (next (next (next c.sign_extended_byte-byte.ensures.gives c.sign_extended_half-half.ensures.gives) c.choose-wide.ensures.gives) c.choose.ensures.gives)
    (λ ws f n core s.
    picks (15 ∷ []) core.word (f.1 core.word s.word) (f.0.0.0 ∙ ap sign_extended8 s.registers.machine.operand) (picks (16 ∷ []) core.word (f.0.1 core.word s.word) (f.0.0.1 ∙ ap sign_extended16 s.registers.machine.operand) s.registers.machine.operand))
