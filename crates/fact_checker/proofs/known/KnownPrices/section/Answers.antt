use Rattle.std.proofs.Common.{◌≡◌, ◌<◌, List, [], length, get_or, ap, ◌∙◌, subst, arith}
use Rattle.std.proofs.lemmas.List.{get_or_default}
use Rattle.certificates.specs.declared.cert.CertSection.{CertSection}
use Rattle.certificates.specs.Certificate.{Certificate}
use Rattle.priced_cert.specs.declared.prices.Price.{Price}
use Rattle.fact_checker.specs.Known.{GivenPrices}
use Rattle.fact_checker.proofs.Sectioning.{section_there}
use Rattle.fact_checker.proofs.known.KnownPrices.section.Goals as goal

pub returns : goal.returns
returns c =
    let g = c.args.self.now in
    let i = c.args.i in
    let s = c.index-sections-i.result in
    let xs = c.index-prices-i.result in
    let sections : c.sections.result.now ≡ g.certificate.plain.sections =
    c.sections.ensures ∙ (ap (λ (p : Certificate). p.sections) c.plain.ensures ∙ ap (λ (k : GivenPrices). k.certificate.plain.sections) c.self.view_is)
    in
    let prices : c.prices.result.now ≡ g.certificate.prices = c.prices.ensures ∙ ap (λ (k : GivenPrices). k.certificate.prices) c.self.view_is in
    let S : List CertSection → Type 0 = λ ss. s ≡ get_or ss i s in
    let X : List (List Price) → Type 0 = λ ps. xs ≡ get_or ps i xs in
    let s_is = subst S sections c.index-sections-i.is in
    let xs_is = subst X prices c.index-prices-i.is in
    let below : i < length g.certificate.plain.sections = c.requires in
    let L : GivenPrices → Type 0 = λ k. length k.certificate.prices ≡ length k.certificate.plain.sections in
    let same : length g.certificate.prices ≡ length g.certificate.plain.sections = subst L c.self.view_is c.self.invariant.same in
    section_there g.certificate.plain.sections g.certificate.prices i s c.as_slice.result.now below s_is (c.as_slice.ensures ∙ (xs_is ∙ get_or_default g.certificate.prices i xs [] (omega arith)))
