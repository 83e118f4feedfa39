use Rattle.circuit_build.proofs.Steps.{next, so}
use Rattle.circuit_core.proofs.pushed.pushed.Goals as goal
use Rattle.std.proofs.Common.{[], ◌∷◌, ap, ◌∙◌}
use Rattle.circuit_core.proofs.Choosing.{picks}
use Rattle.circuit_core.specs.Choices.{from_outside}
use Rattle.circuit_core.proofs.Pushing.{pushes_all}

pub returns-clause-gives : goal.returns-clause-gives
returns-clause-gives c =
    so (next (next (next (next (next c.from_operand-operand.ensures.gives c.from_place-place.ensures.gives) c.from_outside-outside.ensures.gives) c.choose-pushed.ensures.gives) c.choose-pushed-2.ensures.gives) c.choose.ensures.gives)
    (λ ws f n core given s i.
    picks (14 ∷ 15 ∷ 16 ∷ []) core.word (f.1 core.word s.word) (f.0.0.0.0.0 n core s) (picks (27 ∷ 29 ∷ 31 ∷ []) core.word (f.0.1 core.word s.word) (f.0.0.0.0.1 n core s) (picks (2 ∷ 40 ∷ 44 ∷ []) core.word (f.0.0.1 core.word s.word) (f.0.0.0.1 n core s ∙ ap (λ x. from_outside x core) i) s.loaded)) ∙ pushes_all given core)
