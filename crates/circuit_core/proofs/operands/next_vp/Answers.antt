use Rattle.circuit_build.proofs.Steps.{so}
use Rattle.circuit_core.proofs.operands.next_vp.Goals as goal
use Rattle.std.proofs.Common.{◌^◌, ◌∙◌, ap}
use Rattle.circuit_cycles.specs.Words.{stvp}
use Rattle.circuit_cycles.specs.Core.{does}
use Rattle.circuit_core.proofs.Choosing.{placed}

pub returns-clause-gives : goal.returns-clause-gives
returns-clause-gives c =
    so c.set_to_place.ensures.gives
    (λ ws f n core s.
    placed core.a (does stvp core) (f n core s) (ap (λ w. 2 ^ w) c.args.cycle.now.registers.machine.vp_width ∙ s.registers.machine.places) s.registers.machine.vp)
