use Rattle.circuit_build.proofs.Steps.{next, so}
use Rattle.circuit_core.proofs.combined.compared.Goals as goal
use Rattle.std.proofs.Common.{[], ◌∷◌, ◌∙◌}
use Rattle.jop_core.specs.Operations.{combined}
use Rattle.circuit_core.proofs.Choosing.{picks}
use Rattle.std.proofs.Common.{subst, sym, ◌<◌, ◌^◌}
use Rattle.circuit_core.proofs.Choosing.{pair, picks}
use Rattle.microcode.specs.declared.isa.operation.Operation.TheVariants.{Slt, Sltu}

pub returns-clause-gives : goal.returns-clause-gives
returns-clause-gives c =
    so (next (next c.compared_signed-signed.ensures.gives c.compared_unsigned-unsigned.ensures.gives) c.choose.ensures.gives)
    (λ ws f n core s.
    picks (12 ∷ []) core.word (f.1 core.word s.word) (f.0.0 (subst (λ x. x < 2 ^ 32) (sym s.registers.machine.b) s.registers.machine.b_fits) (subst (λ x. x < 2 ^ 32) (sym s.registers.machine.a) s.registers.machine.a_fits) ∙ pair (combined Slt) s.registers.machine.b s.registers.machine.a) (f.0.1 ∙ pair (combined Sltu) s.registers.machine.b s.registers.machine.a))
