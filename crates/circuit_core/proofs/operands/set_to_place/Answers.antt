use Rattle.circuit_build.proofs.Steps.{next, so}
use Rattle.circuit_core.proofs.operands.set_to_place.Goals as goal
use Rattle.std.proofs.Common.{◌%◌, ◌^◌, ◌∙◌, refl, ap, arith}
use Rattle.circuit_cycles.specs.Core.{does}
use Rattle.circuit_core.proofs.Choosing.{chosen}

pub returns-clause-gives : goal.returns-clause-gives
returns-clause-gives c =
    so (next (next c.does-sets.ensures.gives (c.fit-place.ensures.cut (omega (arith, c.requires.width, c.args.cycle.now.registers.machine.a_width)))) c.choose.ensures.gives)
    (λ ws f n core s.
    chosen (does c.args.code core) f.1 (f.0.0 n core s) (f.0.1 ∙ ap (λ x. x % 2 ^ c.args.kept.width) s.registers.machine.a) refl)
