use Rattle.circuit_build.proofs.Steps.{next, so}
use Rattle.circuit_core.proofs.word.Word.choose.Goals as goal
use Rattle.std.proofs.Common.{refl}
use Rattle.circuit_core.specs.Decoding.{is_any}
use Rattle.circuit_core.proofs.Choosing.{chosen}

pub returns-clause-gives : goal.returns-clause-gives
returns-clause-gives c =
    so (next c.is_any-is_any.ensures.gives c.choose.ensures.gives)
    (λ ws f word d.
    chosen (is_any c.args.codes.now word) f.1 (f.0 word d) refl refl)
