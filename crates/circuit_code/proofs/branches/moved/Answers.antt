use Rattle.circuit_build.proofs.Steps.{next, so}
use Rattle.circuit_code.proofs.branches.moved.Goals as goal
use Rattle.std.proofs.Common.{ap, ◌∙◌, ◌%◌, ◌^◌}
use Rattle.circuit_cycles.specs.Words.{stjpc}
use Rattle.circuit_cycles.specs.Core.{does}
use Rattle.circuit_core.proofs.WordBits.{low}
use Rattle.circuit_code.specs.Taking.{branches}
use Rattle.circuit_core.proofs.Choosing.{chosen}

pub returns-clause-gives : goal.returns-clause-gives
returns-clause-gives c =
    so (next (next (next (next (next c.branches-branches.ensures.gives c.target-target.ensures.gives) c.does-sets.ensures.gives) c.part-place.ensures.gives) c.choose-set.ensures.gives) c.choose.ensures.gives)
    (λ ws f n core s.
    chosen (branches core) f.1 (f.0.0.0.0.0 n core s) (f.0.0.0.0.1 n core s) (chosen (does stjpc core) f.0.1 (f.0.0.0.1 n core s) (low _ _ 16 f.0.0.1 ∙ ap (λ x. x % 2 ^ 16) s.registers.machine.a) s.registers.machine.jpc))
