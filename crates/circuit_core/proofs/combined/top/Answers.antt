use Rattle.circuit_build.proofs.Steps.{next, so}
use Rattle.circuit_core.proofs.combined.top.Goals as goal
use Rattle.std.proofs.Common.{[], ◌∷◌, ◌∙◌}
use Rattle.circuit_core.proofs.Choosing.{picks}
use Rattle.circuit_core.proofs.Combining.{combines}

pub returns-clause-gives : goal.returns-clause-gives
returns-clause-gives c =
    so (next (next (next (next (next (next (next c.shifted-shifted.ensures.gives c.compared-compared.ensures.gives) c.bitwise-bitwise.ensures.gives) c.calculated-calculated.ensures.gives) c.choose-top.ensures.gives) c.choose-top-2.ensures.gives) c.choose-top-3.ensures.gives) c.choose.ensures.gives)
    (λ ws f n core s.
    picks (8 ∷ 9 ∷ 10 ∷ []) core.word (f.1 core.word s.word) (f.0.0.0.0.0.0.0 n core s) (picks (12 ∷ 13 ∷ []) core.word (f.0.1 core.word s.word) (f.0.0.0.0.0.0.1 n core s) (picks (5 ∷ 6 ∷ 7 ∷ []) core.word (f.0.0.1 core.word s.word) (f.0.0.0.0.0.1 n core s) (picks (3 ∷ 4 ∷ 11 ∷ []) core.word (f.0.0.0.1 core.word s.word) (f.0.0.0.0.1 n core s) s.registers.machine.b))) ∙ combines core)
