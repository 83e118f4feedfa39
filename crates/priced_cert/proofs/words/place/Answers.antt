use Rattle.std.proofs.Common.{arith}
use Rattle.certificates.proofs.NumberLemmas.{one_number}
use Rattle.priced_cert.proofs.words.place.Goals as goal

pub returns-else-place : goal.returns-else-place
returns-else-place c = λ x small e.
    let most = c.in_ok-place.ensures.1 in
    let same = one_number c.args.text.now c.in_ok-place.place x c.in_ok-place.ensures.0 e (omega arith) (omega arith) in
    omega (arith, c.if-place.false)
