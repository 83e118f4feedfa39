use Rattle.circuit_build.proofs.Steps.{next, so}
use Rattle.circuit_core.proofs.combined.bitwise.Goals as goal
use Rattle.std.proofs.Common.{[], ◌∷◌, ◌∙◌}
use Rattle.jop_core.specs.Operations.{combined}
use Rattle.circuit_core.proofs.Choosing.{picks}
use Rattle.circuit_core.proofs.Choosing.{pair, picks}
use Rattle.microcode.specs.declared.isa.operation.Operation.TheVariants.{And, Or, Xor}

pub returns-clause-gives : goal.returns-clause-gives
returns-clause-gives c =
    so (next (next (next (next c.and-both.ensures.gives c.or-either.ensures.gives) c.xor-one.ensures.gives) c.choose-unlike.ensures.gives) c.choose.ensures.gives)
    (λ ws f n core s.
    picks (5 ∷ []) core.word (f.1 core.word s.word) (f.0.0.0.0 ∙ pair (combined And) s.registers.machine.b s.registers.machine.a) (picks (6 ∷ []) core.word (f.0.1 core.word s.word) (f.0.0.0.1 ∙ pair (combined Or) s.registers.machine.b s.registers.machine.a) (f.0.0.1 ∙ pair (combined Xor) s.registers.machine.b s.registers.machine.a)))
