use Rattle.circuit_build.proofs.Steps.{next, so}
use Rattle.circuit_core.proofs.pushed.from_place.Goals as goal
use Rattle.std.proofs.Common.{[], ◌∷◌, ◌∙◌, arith}
use Rattle.circuit_core.proofs.Choosing.{picks}

pub returns-clause-gives : goal.returns-clause-gives
returns-clause-gives c =
    so (next (next (next (next (c.fit-vp.ensures.kept (omega (arith, c.args.cycle.now.registers.machine.vp_width, c.args.cycle.now.registers.machine.few_places))) (c.fit-sp.ensures.kept (omega (arith, c.args.cycle.now.registers.machine.few_places)))) (c.fit-jpc.ensures.kept (omega (arith, c.args.cycle.now.registers.machine.jpc_width)))) c.choose-other.ensures.gives) c.choose.ensures.gives)
    (λ ws f n core s.
    picks (27 ∷ []) core.word (f.1 core.word s.word) (f.0.0.0.0 ∙ s.registers.machine.vp) (picks (29 ∷ []) core.word (f.0.1 core.word s.word) (f.0.0.0.1 ∙ s.registers.machine.sp) (f.0.0.1 ∙ s.registers.machine.jpc)))
