use Rattle.circuit_build.proofs.Steps.{next, so}
use Rattle.circuit_core.proofs.arithmetic.shifted_right.Goals as goal
use Rattle.std.proofs.Common.{ap}
use Rattle.netlist.specs.Meaning.{word_on}
use Rattle.circuit_core.proofs.WordBits.{low}
use Rattle.circuit_core.proofs.Numbers.{arithmetic_shift}

pub returns-clause-gives : goal.returns-clause-gives
returns-clause-gives c =
    so (next (next (next (next (next c.part-by.ensures.gives c.part-sign.ensures.gives) c.choose-signs.ensures.gives) c.join-both.ensures.gives) c.right-moved.ensures.gives) c.part.ensures.gives)
    (λ ws f h.
    arithmetic_shift (word_on ws c.args.x) (word_on ws c.args.y) f.1 f.0.1 f.0.0.1 c.requires f.0.0.0.1 f.0.0.0.0.1
    (ap (λ n. word_on ws n) c.constant.ensures) (ap (λ n. word_on ws n) c.constant-2.ensures) (low _ (word_on ws c.args.y) 5 f.0.0.0.0.0) h)
