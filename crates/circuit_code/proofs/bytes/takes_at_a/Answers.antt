use Rattle.circuit_build.proofs.Steps.{next, so}
use Rattle.circuit_code.proofs.bytes.takes_at_a.Goals as goal
use Rattle.circuit_cycles.specs.Words.{has_nxt, is, stjpc}
use Rattle.circuit_core.proofs.Choosing.{both}

pub returns-clause-gives : goal.returns-clause-gives
returns-clause-gives c =
    so (next c.is-sets.ensures.gives c.and.ensures.gives)
    (λ ws f word d.
    both (is stjpc word) (has_nxt word) f.1 (f.0 word d) d.nxt)
