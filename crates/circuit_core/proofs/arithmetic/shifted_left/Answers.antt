use Rattle.std.proofs.Common.{◌*◌, ◌%◌, ◌^◌, ◌∙◌, ap}
use Rattle.netlist.specs.Meaning.{word_on}
use Rattle.circuit_build.proofs.Steps.{next, so}
use Rattle.circuit_core.proofs.WordBits.{low}
use Rattle.circuit_core.proofs.arithmetic.shifted_left.Goals as goal

pub returns-clause-gives : goal.returns-clause-gives
returns-clause-gives c =
    so (next c.part-by.ensures.gives c.left.ensures.gives)
    (λ ws f.
    f.1 ∙ ap (λ k. (word_on ws c.args.x * 2 ^ k) % 2 ^ c.args.x.width) (low _ (word_on ws c.args.y) 5 f.0)
    ∙ ap (λ w. (word_on ws c.args.x * 2 ^ (word_on ws c.args.y % 32)) % 2 ^ w) c.requires)
