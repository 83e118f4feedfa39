use Rattle.circuit_build.proofs.Steps.{next, so}
use Rattle.circuit_core.proofs.stored.write_place.Goals as goal
use Rattle.std.proofs.Common.{◌+◌, ◌%◌, ◌^◌, ◌<◌, ap, ◌∙◌, subst, sym}
use Rattle.circuit_cycles.specs.Core.{pushes}
use Rattle.circuit_core.proofs.Placing.{place_same}
use Rattle.circuit_core.proofs.Choosing.{chosen}

pub returns-clause-gives : goal.returns-clause-gives
returns-clause-gives c =
    so (next (next c.plus-above.ensures.gives c.place_of-place.ensures.gives) c.choose.ensures.gives)
    (λ ws f n core s.
    chosen (pushes core) f.1 s.pushes (f.0.0 ∙ ap (λ x. (x + 1) % 2 ^ c.args.cycle.now.registers.machine.sp.width) s.registers.machine.sp ∙ ap (λ m. (core.sp + 1) % m) s.registers.machine.places)
    (f.0.1 core.word s.word (subst (λ x. x < 2 ^ c.args.cycle.now.registers.machine.vp.width) (sym s.registers.machine.vp) (subst (λ m. core.vp < m) (sym (ap (λ w. 2 ^ w) c.args.cycle.now.registers.machine.vp_width ∙ s.registers.machine.places)) s.registers.machine.vp_fits))
    ∙ place_same n core.word core.vp core.ar core.operand (ap (λ w. 2 ^ w) c.args.cycle.now.registers.machine.vp_width ∙ s.registers.machine.places) s.registers.machine.vp s.registers.machine.ar s.registers.machine.operand))
