use Rattle.base.specs.Signed.{signed_lt}
use Rattle.netlist.specs.Meaning.{word_on}
use Rattle.std.proofs.Common.{arith}
use Rattle.circuit_build.proofs.Steps.{next, so}
use Rattle.circuit_core.proofs.Numbers.{widened}
use Rattle.circuit_core.proofs.arithmetic.compared_signed.Goals as goal

pub returns-clause-gives : goal.returns-clause-gives
returns-clause-gives c =
    so (next c.signed_less-is_less.ensures.gives (c.fit.ensures.kept (omega (arith, c.signed_less-is_less.ensures.width))))
    (λ ws f hx hy. widened (signed_lt (word_on ws c.args.x) (word_on ws c.args.y)) f.1 (f.0 hx hy))
