-- What isn't UTF-8 is no decimal number.
use Rattle.ascii_text.proofs.NumberLemmas.{IsUtf8-IsDecimalNumber}
use Rattle.ascii_text.proofs.number.read_u64.Goals as goal

pub returns-in-Err : goal.returns-in-Err
returns-in-Err c = λ p. c.in-Err.ensures.cases.0 (IsUtf8-IsDecimalNumber c.args.text.now p.0)
