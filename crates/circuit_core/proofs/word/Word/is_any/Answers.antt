use Rattle.circuit_build.proofs.Steps.{next, so}
use Rattle.circuit_core.proofs.word.Word.is_any.Goals as goal
use Rattle.circuit_core.proofs.Stacking.{any_plain}

pub returns-clause-gives : goal.returns-clause-gives
returns-clause-gives c =
    so (next c.is_any-named.ensures.gives c.and.ensures.gives)
    (λ ws f word d.
    any_plain c.args.codes.now word f.1 d.is_plain f.0 d.code)
