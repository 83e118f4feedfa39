use Rattle.std.proofs.Common.{arith}
use Rattle.certificates.proofs.NumberLemmas.{no_version}
use Rattle.certificates.proofs.line_reader.kind.version.Goals as goal

pub returns : goal.returns
returns c = no_version c.args.text.now c.in_ok-number.number c.in_ok-number.ensures.0 c.in_ok-number.ensures.1 (λ e. omega (arith, e, c.if-number-eq1.false)) (λ e. omega (arith, e, c.if-number-eq2.false))
