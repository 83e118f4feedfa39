use Rattle.std.proofs.Common.{◌/◌, ◌^◌, ◌∙◌, ap}
use Rattle.netlist.specs.Meaning.{word_on}
use Rattle.circuit_build.proofs.Steps.{next, so}
use Rattle.circuit_core.proofs.WordBits.{low}
use Rattle.circuit_core.proofs.arithmetic.shifted_right_unsigned.Goals as goal

pub returns-clause-gives : goal.returns-clause-gives
returns-clause-gives c =
    so (next c.part-by.ensures.gives c.right.ensures.gives)
    (λ ws f. f.1 ∙ ap (λ k. word_on ws c.args.x / 2 ^ k) (low _ (word_on ws c.args.y) 5 f.0))
