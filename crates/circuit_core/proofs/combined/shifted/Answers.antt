use Rattle.circuit_build.proofs.Steps.{next, so}
use Rattle.circuit_core.proofs.combined.shifted.Goals as goal
use Rattle.std.proofs.Common.{[], ◌∷◌, ◌∙◌}
use Rattle.jop_core.specs.Operations.{combined}
use Rattle.circuit_core.proofs.Choosing.{picks}
use Rattle.std.proofs.Common.{subst, sym, ◌<◌, ◌^◌}
use Rattle.circuit_core.proofs.Choosing.{pair, picks}
use Rattle.microcode.specs.declared.isa.operation.Operation.TheVariants.{Shl, Shr, Ushr}

pub returns-clause-gives : goal.returns-clause-gives
returns-clause-gives c =
    so (next (next (next (next c.shifted_left-left.ensures.gives c.shifted_right-right.ensures.gives) c.shifted_right_unsigned-unsigned.ensures.gives) c.choose-down.ensures.gives) c.choose.ensures.gives)
    (λ ws f n core s.
    picks (8 ∷ []) core.word (f.1 core.word s.word) (f.0.0.0.0 ∙ pair (combined Shl) s.registers.machine.b s.registers.machine.a) (picks (9 ∷ []) core.word (f.0.1 core.word s.word) (f.0.0.0.1 (subst (λ x. x < 2 ^ 32) (sym s.registers.machine.b) s.registers.machine.b_fits) ∙ pair (combined Shr) s.registers.machine.b s.registers.machine.a) (f.0.0.1 ∙ pair (combined Ushr) s.registers.machine.b s.registers.machine.a)))
