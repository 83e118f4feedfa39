use Rattle.std.proofs.Common.{[], map, sym, ◌∙◌, subst, arith}
use Rattle.std.proofs.lemmas.List.{get_or_default}
use Rattle.certificates.specs.declared.cert.CertSection.{CertSection}
use Rattle.fact_rules.specs.Pricing.{PricedSection, placed_in, with_prices}
use Rattle.fact_rules.proofs.Pricing.{length_with_prices}
use Rattle.fact_checker.specs.Missing.{IsMissing}
use Rattle.fact_checker.proofs.Finding.{none_missing, list_missing, lists_more, lists_all}
use Rattle.fact_checker.proofs.Sectioning.{section_there, section_below, section_is}
use Rattle.fact_checker.proofs.missing.missing_in_sections.Goals as goal

pub returns-then-is_some : goal.returns-then-is_some
returns-then-is_some c =
    let ss = c.args.sections.now in
    let ps = c.args.prices.now in
    let i = c.loop-i.i in
    let xs = c.index-prices-i.result in
    let long = c.requires in
    let below = c.loop-i-test.true in
    let s : PricedSection = record { plain = c.index-sections-i.result; prices = c.as_slice.result.now } in
    let at = section_there ss ps i c.index-sections-i.result c.as_slice.result.now below c.index-sections-i.is (c.as_slice.ensures ∙ (c.index-prices-i.is ∙ get_or_default ps i xs [] (omega arith))) in
    let M : CertSection → Type 0 = λ k. IsMissing (map (placed_in c.args.index.now k.method) c.as_slice.result.now) c.missing_in_section-missing.result in
    list_missing (λ (x : PricedSection). map (placed_in c.args.index.now x.plain.method) x.prices) (with_prices ss ps) i s c.missing_in_section-missing.result (section_below ss ps i s at) (section_is ss ps i s at)
    c.loop-i.invariant (sym c.if-is_some.ensures) (subst M (sym c.index-sections-i.is) c.missing_in_section-missing.ensures)

pub loop-i-preserved : goal.loop-i-preserved
loop-i-preserved c =
    let ss = c.args.sections.now in
    let ps = c.args.prices.now in
    let i = c.loop-i.i in
    let xs = c.index-prices-i.result in
    let long = c.requires in
    let below = c.loop-i-test.true in
    let s : PricedSection = record { plain = c.index-sections-i.result; prices = c.as_slice.result.now } in
    let at = section_there ss ps i c.index-sections-i.result c.as_slice.result.now below c.index-sections-i.is (c.as_slice.ensures ∙ (c.index-prices-i.is ∙ get_or_default ps i xs [] (omega arith))) in
    let M : CertSection → Type 0 = λ k. IsMissing (map (placed_in c.args.index.now k.method) c.as_slice.result.now) c.missing_in_section-missing.result in
    lists_more (λ (x : PricedSection). map (placed_in c.args.index.now x.plain.method) x.prices) (with_prices ss ps) i s (section_below ss ps i s at) (section_is ss ps i s at) c.loop-i.invariant
    (none_missing (map (placed_in c.args.index.now s.plain.method) s.prices) c.missing_in_section-missing.result (sym c.if-is_some.ensures) (subst M (sym c.index-sections-i.is) c.missing_in_section-missing.ensures))

pub returns : goal.returns
returns c =
    let ss = c.args.sections.now in
    let ps = c.args.prices.now in
    let long = length_with_prices ss ps in
    let past = c.loop-i-test.false in
    lists_all (λ (x : PricedSection). map (placed_in c.args.index.now x.plain.method) x.prices) (with_prices ss ps) c.loop-i.i (omega (arith, long, past)) c.loop-i.invariant
