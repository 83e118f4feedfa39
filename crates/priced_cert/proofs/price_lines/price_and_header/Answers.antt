use Rattle.std.proofs.Common.{rules}
use Rattle.certificates.proofs.NumberLemmas.{nothing_found}
use Rattle.priced_cert.specs.Prices.{fee_text, IsFee}
use Rattle.priced_cert.proofs.ReadingLemmas.{no_fee_price, no_fee_header, no_fee_alone}
use Rattle.priced_cert.proofs.price_lines.price_and_header.Goals as goal

pub returns-in_err-price-in-Some : goal.returns-in_err-price-in-Some
returns-in_err-price-in-Some c =
    nothing_found fee_text IsFee _ c.from_residual.result (search rules)
    (λ x range e. no_fee_price c.args.text.now c.in-Some.price_word.now c.in-Some.per.now c.in-Some.ensures.0 c.in-Some.ensures.1 c.in_err-price-in-Some.ensures x.0 x.1 range e)

pub returns-in_err-header-in-Some : goal.returns-in_err-header-in-Some
returns-in_err-header-in-Some c =
    nothing_found fee_text IsFee _ c.from_residual-in_err-header-in-Some.result (search rules)
    (λ x range e. no_fee_header c.args.text.now c.in-Some.price_word.now c.in-Some.per.now c.in-Some.ensures.0 c.in-Some.ensures.1 c.in_err-header-in-Some.ensures x.0 x.1 range e)

pub returns-in_err-price-in-None : goal.returns-in_err-price-in-None
returns-in_err-price-in-None c =
    nothing_found fee_text IsFee _ c.from_residual-in_err-price-in-None.result (search rules)
    (λ x range e. no_fee_alone c.args.text.now c.in-None.ensures c.in_err-price-in-None.ensures x.0 x.1 range e)
