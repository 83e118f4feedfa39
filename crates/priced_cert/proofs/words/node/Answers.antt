use Rattle.std.proofs.Common.{rules, ◌∷◌, []}
use Rattle.certificates.proofs.NumberLemmas.{ends_with, no_raise, raise_found, nothing_found}
use Rattle.certificates.specs.CertLines.{node_text}
use Rattle.priced_cert.specs.Prices.{IsNode}
use Rattle.priced_cert.proofs.words.node.Goals as goal

pub returns-in_err-place-in-Some : goal.returns-in_err-place-in-Some
returns-in_err-place-in-Some c =
    let cases = c.in-Some.ensures.cases in
    nothing_found node_text IsNode _ c.from_residual.result (search rules)
    (no_raise c.args.text.now c.in-Some.digits.now (ends_with c.args.text.now c.in-Some.digits.now (114 ∷ []) cases.0 cases.1) c.in_err-place-in-Some.ensures)

pub returns-in_ok-place-in-Some : goal.returns-in_ok-place-in-Some
returns-in_ok-place-in-Some c =
    let cases = c.in-Some.ensures.cases in
    raise_found c.args.text.now c.in-Some.digits.now c.in_ok-place-in-Some.field-0 (ends_with c.args.text.now c.in-Some.digits.now (114 ∷ []) cases.0 cases.1) c.in_ok-place-in-Some.ensures.0 c.in_ok-place-in-Some.ensures.1
