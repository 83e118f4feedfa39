use Rattle.std.proofs.Common.{ap}
use Rattle.netlist.specs.Meaning.{word_on}
use Rattle.circuit_build.proofs.Steps.{next, so}
use Rattle.circuit_core.proofs.Numbers.{byte}
use Rattle.circuit_core.proofs.arithmetic.sign_extended_byte.Goals as goal

pub returns-clause-gives : goal.returns-clause-gives
returns-clause-gives c =
    so (next (next (next c.part-low.ensures.gives c.part-sign.ensures.gives) c.choose-above.ensures.gives) c.join.ensures.gives)
    (λ ws f.
    byte (word_on ws c.args.x) _ (word_on ws c.part-low.result) (word_on ws c.part-sign.result) (word_on ws c.choose-above.result) c.part-low.result.width
    (word_on ws c.constant.result) (word_on ws c.constant-2.result) f.1 f.0.1 f.0.0.1 f.0.0.0 c.part-low.ensures.width
    (ap (λ n. word_on ws n) c.constant.ensures) (ap (λ n. word_on ws n) c.constant-2.ensures))
