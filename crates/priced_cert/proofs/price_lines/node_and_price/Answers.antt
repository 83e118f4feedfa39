use Rattle.std.proofs.Common.{rules, decimal}
use Rattle.certificates.specs.CertLines.{node_text}
use Rattle.certificates.proofs.NumberLemmas.{nothing_found}
use Rattle.priced_cert.specs.Prices.{visit_text, IsVisit}
use Rattle.priced_cert.proofs.ReadingLemmas.{no_parts, no_node, no_price}
use Rattle.priced_cert.proofs.price_lines.node_and_price.Goals as goal

pub returns-in_err-node_word : goal.returns-in_err-node_word
returns-in_err-node_word c =
    nothing_found visit_text IsVisit _ c.from_residual.result (search rules) (λ x range e. no_parts c.args.text.now (node_text x.0) (decimal x.1) c.in_err-node_word.ensures e)

pub returns-in_err-node : goal.returns-in_err-node
returns-in_err-node c =
    nothing_found visit_text IsVisit _ c.from_residual-in_err-node.result (search rules)
    (no_node c.args.text.now c.in_ok-node_word.node_word.now c.in_ok-node_word.price_word.now c.in_ok-node_word.ensures.0 c.in_ok-node_word.ensures.1 c.in_err-node.ensures)

pub returns-in_err-price : goal.returns-in_err-price
returns-in_err-price c =
    nothing_found visit_text IsVisit _ c.from_residual-in_err-price.result (search rules)
    (no_price c.args.text.now c.in_ok-node_word.node_word.now c.in_ok-node_word.price_word.now c.in_ok-node_word.ensures.0 c.in_ok-node_word.ensures.1 c.in_err-price.ensures)
