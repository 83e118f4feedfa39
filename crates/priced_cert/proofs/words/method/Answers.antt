use Rattle.std.proofs.Common.{arith}
use Rattle.certificates.proofs.NumberLemmas.{one_number}
use Rattle.priced_cert.proofs.words.method.Goals as goal

pub returns-else-number-from : goal.returns-else-number-from
returns-else-number-from c = λ x small e.
    let same = one_number c.args.text.now c.in_ok-number.number x c.in_ok-number.ensures.0 e c.in_ok-number.ensures.1 (omega arith) in
    omega (arith, c.if-number-from.false, c.from.ensures)
