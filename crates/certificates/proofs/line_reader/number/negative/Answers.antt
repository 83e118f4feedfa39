use Rattle.std.proofs.Common.{decimal, ap, ◌∙◌}
use Rattle.certificates.proofs.NumberLemmas.{no_negative, no_minus_zero}
use Rattle.certificates.proofs.line_reader.number.negative.Goals as goal

pub returns-in_default : goal.returns-in_default
returns-in_default c = no_negative c.args.digits.now c.in_default.ensures

pub returns-then-number-eq0 : goal.returns-then-number-eq0
returns-then-number-eq0 c = no_minus_zero c.args.digits.now (c.in-Some.ensures.0 ∙ ap decimal c.if-number-eq0.true)
