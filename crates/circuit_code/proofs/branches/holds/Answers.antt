use Rattle.circuit_build.proofs.Steps.{next, so}
use Rattle.circuit_code.proofs.branches.holds.Goals as goal
use Rattle.circuit_code.specs.Taking.{holds_on_both}

pub returns-clause-gives : goal.returns-clause-gives
returns-clause-gives c =
    so (next c.holds_on_both-on_both.ensures.gives c.holds_on_a.ensures.gives)
    (λ ws f n core s.
    f.1 (holds_on_both core.opcode core.b core.a) (f.0 n core s) n core s)
