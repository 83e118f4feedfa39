use Rattle.std.proofs.Common.{ap, ◌∙◌}
use Rattle.std.specs.Prelude.{bit_xor}
use Rattle.netlist.specs.Meaning.{word_on}
use Rattle.circuit_build.proofs.Steps.{next, so}
use Rattle.circuit_core.proofs.Numbers.{less}
use Rattle.circuit_core.proofs.arithmetic.signed_less.Goals as goal

pub returns-clause-gives : goal.returns-clause-gives
returns-clause-gives c =
    so (next (next c.xor-above_x.ensures.gives c.xor-above_y.ensures.gives) c.less.ensures.gives)
    (λ ws f hx hy.
    less (word_on ws c.args.x) (word_on ws c.args.y) (word_on ws c.xor-above_x.result) (word_on ws c.xor-above_y.result) _ hx hy
    (f.0.0 ∙ ap (λ n. bit_xor (word_on ws c.args.x) (word_on ws n)) c.constant.ensures)
    (f.0.1 ∙ ap (λ n. bit_xor (word_on ws c.args.y) (word_on ws n)) c.constant-2.ensures) f.1)
