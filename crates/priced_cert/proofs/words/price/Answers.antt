use Rattle.std.proofs.Common.{arith}
use Rattle.certificates.proofs.NumberLemmas.{one_number}
use Rattle.priced_cert.proofs.words.price.Goals as goal

pub returns-else-number-gt0 : goal.returns-else-number-gt0
returns-else-number-gt0 c = λ x range e.
    let same = one_number c.args.text.now c.in_ok-number.number x c.in_ok-number.ensures.0 e c.in_ok-number.ensures.1 range.1 in
    omega (arith, same, range.0, c.if-number-gt0.false)
