use Rattle.circuit_build.proofs.Steps.{next, so}
use Rattle.circuit_core.proofs.word.Word.pushes.Goals as goal
use Rattle.circuit_core.proofs.Stacking.{pushed}

pub returns-clause-gives : goal.returns-clause-gives
returns-clause-gives c =
    so (next (next (next c.is_any-named.ensures.gives c.and-plain.ensures.gives) c.or-constant.ensures.gives) c.or.ensures.gives)
    (λ ws f word d.
    pushed word _ _ _ _ _ _ _ _ f.1 f.0.0.1 f.0.1 d.is_plain f.0.0.0 d.code d.is_ldm d.is_ldi)
