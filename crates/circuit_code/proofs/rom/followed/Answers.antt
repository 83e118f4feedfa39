use Rattle.circuit_build.proofs.Steps.{next, so}
use Rattle.circuit_code.proofs.rom.followed.Goals as goal
use Rattle.std.proofs.Common.{refl}
use Rattle.circuit_cycles.specs.Core.{dispatches, is_taken}
use Rattle.circuit_core.proofs.Choosing.{chosen}

pub returns-clause-gives : goal.returns-clause-gives
returns-clause-gives c =
    so (next (next (next c.is_taken-taken.ensures.gives c.dispatches-dispatches.ensures.gives) c.choose-followed.ensures.gives) c.choose.ensures.gives)
    (λ ws f n core s.
    chosen (is_taken core) f.1 (f.0.0.0 n core s) s.word.target (chosen (dispatches core) f.0.1 (f.0.0.1 n core s) refl refl))
