use Rattle.circuit_build.proofs.Steps.{next, so}
use Rattle.circuit_core.proofs.operands.next_sp.Goals as goal
use Rattle.std.proofs.Common.{◌+◌, ◌-◌, ◌%◌, ◌^◌, ◌∙◌, ap}
use Rattle.circuit_cycles.specs.Words.{stsp}
use Rattle.circuit_cycles.specs.Core.{does, pushes, pops}
use Rattle.circuit_core.proofs.Choosing.{chosen, placed}

pub returns-clause-gives : goal.returns-clause-gives
returns-clause-gives c =
    so (next (next (next (next c.plus-above.ensures.gives c.minus-beneath.ensures.gives) c.choose-popped.ensures.gives) c.choose-moved.ensures.gives) c.set_to_place.ensures.gives)
    (λ ws f n core s.
    placed core.a (does stsp core) (f.1 n core s) (ap (λ w. 2 ^ w) (c.choose-moved.ensures.width ∙ c.plus-above.ensures.width) ∙ s.registers.machine.places)
    (chosen (pushes core) f.0.1 s.pushes
    (f.0.0.0.0 ∙ ap (λ x. (x + 1) % 2 ^ c.args.cycle.now.registers.machine.sp.width) s.registers.machine.sp ∙ ap (λ m. (core.sp + 1) % m) s.registers.machine.places)
    (chosen (pops core) f.0.0.1 s.pops
    (f.0.0.0.1 ∙ ap (λ x. (x + (2 ^ c.args.cycle.now.registers.machine.sp.width - 1)) % 2 ^ c.args.cycle.now.registers.machine.sp.width) s.registers.machine.sp
    ∙ ap (λ m. (core.sp + (m - 1)) % m) s.registers.machine.places) s.registers.machine.sp)))
