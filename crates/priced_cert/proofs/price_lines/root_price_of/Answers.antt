use Rattle.std.proofs.Common.{rules, decimal}
use Rattle.certificates.proofs.NumberLemmas.{nothing_found}
use Rattle.priced_cert.specs.Prices.{root_price_text, visit_text, IsRootPriceInRange}
use Rattle.priced_cert.proofs.ReadingLemmas.{no_parts, no_root_method, no_root_visit}
use Rattle.priced_cert.proofs.price_lines.root_price_of.Goals as goal

pub returns-in_err-method_word : goal.returns-in_err-method_word
returns-in_err-method_word c =
    nothing_found root_price_text IsRootPriceInRange _ c.from_residual.result (search rules) (λ x range e. no_parts c.args.text.now (decimal x.method) (visit_text (x.node, x.price)) c.in_err-method_word.ensures e)

pub returns-in_err-method : goal.returns-in_err-method
returns-in_err-method c =
    nothing_found root_price_text IsRootPriceInRange _ c.from_residual-in_err-method.result (search rules)
    (no_root_method c.args.text.now c.in_ok-method_word.method_word.now c.in_ok-method_word.rest.now c.in_ok-method_word.ensures.0 c.in_ok-method_word.ensures.1 c.in_err-method.ensures)

pub returns-in_err-node : goal.returns-in_err-node
returns-in_err-node c =
    nothing_found root_price_text IsRootPriceInRange _ c.from_residual-in_err-node.result (search rules)
    (no_root_visit c.args.text.now c.in_ok-method_word.method_word.now c.in_ok-method_word.rest.now c.in_ok-method_word.ensures.0 c.in_ok-method_word.ensures.1 c.in_err-node.ensures)
