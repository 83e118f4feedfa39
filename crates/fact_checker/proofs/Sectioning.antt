-- Sections with their prices, by their places.
use Rattle.std.proofs.Common.{◌≡◌, ℕ, ◌<◌, List, [], length, get_or, All, Some, sym, ap, ap₂, ◌∙◌, subst, arith}
use Rattle.std.specs.Prelude.{slice_get}
use Rattle.std.proofs.lemmas.Option.{slice_get-get_or, slice_get_within, get_or_from_slice_get}
use Rattle.certificates.specs.declared.cert.CertSection.{CertSection}
use Rattle.cert_checker.specs.Section.{IsUsual}
use Rattle.priced_cert.specs.declared.prices.Price.{Price}
use Rattle.fact_rules.specs.Pricing.{PricedSection, with_prices}
use Rattle.fact_rules.proofs.Pricing.{at_with_prices, length_with_prices}

module _ (ss : List CertSection) (ps : List (List Price)) (i : ℕ) where
  -- what stands at a place is the section and the list at that place
  pub section_there : (s : CertSection) (xs : List Price) → i < length ss → s ≡ get_or ss i s → xs ≡ get_or ps i [] → slice_get (with_prices ss ps) i ≡ Some (record { plain = s; prices = xs })
  section_there s xs below is are =
      let d : PricedSection = record { plain = s; prices = xs } in
      let long = length_with_prices ss ps in
      slice_get-get_or (with_prices ss ps) i d (omega (arith, long, below))
      ∙ ap (λ (x : PricedSection). Some x) (at_with_prices ss ps i d below ∙ ap₂ (λ (a : CertSection) (b : List Price). record { plain = a; prices = b }) (sym is) (sym are))

  module _ (s : PricedSection) (at : slice_get (with_prices ss ps) i ≡ Some s) where
    pub section_below : i < length (with_prices ss ps)
    section_below = slice_get_within (with_prices ss ps) i s at

    pub section_is : s ≡ get_or (with_prices ss ps) i s
    section_is = sym (get_or_from_slice_get (with_prices ss ps) i s s at)

    pub section_usual : All (λ x. IsUsual x.section) ss → IsUsual s.plain.section
    section_usual all =
        let long = length_with_prices ss ps in
        let within = section_below in
        let below : i < length ss = omega (arith, long, within) in
        let same : s.plain ≡ get_or ss i s.plain = ap (λ (x : PricedSection). x.plain) (section_is ∙ at_with_prices ss ps i s below) in
        subst (λ (x : CertSection). IsUsual x.section) (sym same) (all i s.plain below)
