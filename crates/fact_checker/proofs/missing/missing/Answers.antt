use Rattle.std.proofs.Common.{List, map, refl, sym, ap, ◌∙◌, subst}
use Rattle.certificates.specs.declared.cert.CertSection.{CertSection}
use Rattle.certificates.specs.Certificate.{Certificate}
use Rattle.priced_cert.specs.declared.prices.Price.{Price}
use Rattle.priced_cert.specs.declared.prices.RootPrice.{RootPrice}
use Rattle.fact_rules.specs.Pricing.{Pricing, placed_in_root, pricing_of, with_prices}
use Rattle.fact_rules.specs.Conditions.{sections_of}
use Rattle.fact_checker.specs.Missing.{IsMissing, placed_in_sections}
use Rattle.fact_checker.proofs.Finding.{none_missing, first_missing, then_missing}
use Rattle.fact_checker.proofs.missing.missing.Goals as goal

pub returns-then-is_some : goal.returns-then-is_some
returns-then-is_some c =
    let q : Pricing = pricing_of c.args.index.now c.args.c.now in
    let found = c.missing_in_root-missing.result in
    let X : List RootPrice → Type 0 = λ xs. IsMissing (map (placed_in_root q) xs) found in
    let root = c.root.ensures ∙ ap (λ (p : Certificate). p.root) c.plain-plain.ensures in
    let here = subst X c.root_prices.ensures (c.missing_in_root-missing.ensures q refl (sym root)) in
    first_missing (map (placed_in_root q) c.args.c.now.root_prices) (placed_in_sections c.args.index.now (sections_of c.args.c.now)) found (sym c.if-is_some.ensures) here

pub returns : goal.returns
returns c =
    let q : Pricing = pricing_of c.args.index.now c.args.c.now in
    let first = c.missing_in_root-missing.result in
    let X : List RootPrice → Type 0 = λ xs. IsMissing (map (placed_in_root q) xs) first in
    let root = c.root.ensures ∙ ap (λ (p : Certificate). p.root) c.plain-plain.ensures in
    let here = subst X c.root_prices.ensures (c.missing_in_root-missing.ensures q refl (sym root)) in
    let sections = c.sections.ensures ∙ ap (λ (p : Certificate). p.sections) c.plain-plain.ensures in
    let found = c.missing_in_sections.result in
    let S : List CertSection → Type 0 = λ ss. IsMissing (placed_in_sections c.args.index.now (with_prices ss c.prices.result.now)) found in
    let P : List (List Price) → Type 0 = λ ps. IsMissing (placed_in_sections c.args.index.now (with_prices c.args.c.now.plain.sections ps)) found in
    let there = subst P c.prices.ensures (subst S sections c.missing_in_sections.ensures) in
    then_missing (map (placed_in_root q) c.args.c.now.root_prices) (placed_in_sections c.args.index.now (sections_of c.args.c.now)) found
    (none_missing (map (placed_in_root q) c.args.c.now.root_prices) first (sym c.if-is_some.ensures) here) there
