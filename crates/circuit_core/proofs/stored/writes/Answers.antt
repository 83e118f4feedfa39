use Rattle.circuit_build.proofs.Steps.{next, so}
use Rattle.circuit_core.proofs.stored.writes.Goals as goal
use Rattle.circuit_cycles.specs.Core.{pushes, runs}
use Rattle.circuit_core.proofs.Stacking.{stores}

pub returns-clause-gives : goal.returns-clause-gives
returns-clause-gives c =
    so (next (next (next c.is_any-stores_plain.ensures.gives c.or-stores.ensures.gives) c.and-stores.ensures.gives) c.or.ensures.gives)
    (λ ws f n core s.
    stores core.word (pushes core) (runs core) f.1 f.0.1 f.0.0.1 s.pushes s.runs (f.0.0.0 core.word s.word) s.word.is_stm)
