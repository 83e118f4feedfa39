use Rattle.std.proofs.Common.{rules}
use Rattle.certificates.specs.CertLines.{node_text}
use Rattle.certificates.proofs.NumberLemmas.{nothing_found}
use Rattle.priced_cert.specs.Prices.{price_text, fee_text, IsPriceInRange}
use Rattle.priced_cert.proofs.ReadingLemmas.{no_parts, no_price_node, no_price_fee}
use Rattle.priced_cert.proofs.price_lines.price_of.Goals as goal

pub returns-in_err-node_word : goal.returns-in_err-node_word
returns-in_err-node_word c =
    nothing_found price_text IsPriceInRange _ c.from_residual.result (search rules) (λ x range e. no_parts c.args.text.now (node_text x.node) (fee_text (x.price, x.header)) c.in_err-node_word.ensures e)

pub returns-in_err-node : goal.returns-in_err-node
returns-in_err-node c =
    nothing_found price_text IsPriceInRange _ c.from_residual-in_err-node.result (search rules)
    (no_price_node c.args.text.now c.in_ok-node_word.node_word.now c.in_ok-node_word.rest.now c.in_ok-node_word.ensures.0 c.in_ok-node_word.ensures.1 c.in_err-node.ensures)

pub returns-in_err-price : goal.returns-in_err-price
returns-in_err-price c =
    nothing_found price_text IsPriceInRange _ c.from_residual-in_err-price.result (search rules)
    (no_price_fee c.args.text.now c.in_ok-node_word.node_word.now c.in_ok-node_word.rest.now c.in_ok-node_word.ensures.0 c.in_ok-node_word.ensures.1 c.in_err-price.ensures)
