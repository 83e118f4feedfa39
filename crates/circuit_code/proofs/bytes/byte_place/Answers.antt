use Rattle.circuit_build.proofs.Steps.{next, so}
use Rattle.circuit_code.proofs.bytes.byte_place.Goals as goal
use Rattle.std.proofs.Common.{refl}
use Rattle.circuit_core.proofs.WordBits.{low}
use Rattle.circuit_core.proofs.Choosing.{chosen}

pub returns-clause-gives : goal.returns-clause-gives
returns-clause-gives c =
    so (next c.part-place.ensures.gives c.choose.ensures.gives)
    (λ ws f at_a t.
    chosen at_a f.1 t (low _ _ 16 f.0) refl)
