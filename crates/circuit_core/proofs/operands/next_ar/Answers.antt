use Rattle.circuit_build.proofs.Steps.{so}
use Rattle.circuit_core.proofs.operands.next_ar.Goals as goal
use Rattle.std.proofs.Common.{◌^◌, ◌∙◌, ap}
use Rattle.circuit_cycles.specs.Words.{star}
use Rattle.circuit_cycles.specs.Core.{does}
use Rattle.circuit_core.proofs.Choosing.{placed}

pub returns-clause-gives : goal.returns-clause-gives
returns-clause-gives c =
    so c.set_to_place.ensures.gives
    (λ ws f n core s.
    placed core.a (does star core) (f n core s) (ap (λ w. 2 ^ w) c.args.cycle.now.registers.machine.ar_width ∙ s.registers.machine.places) s.registers.machine.ar)
