-- A certificate made of the parts of one without prices.
use Rattle.std.proofs.Common.{◌≡◌, ℕ, List, [], length, replicate, map, Option, sym, ap, ◌∙◌}
use Rattle.std.proofs.lemmas.Simd.{splat_is_map}
use Rattle.certificates.specs.declared.cert.CertSection.{CertSection}
use Rattle.certificates.specs.Certificate.{Certificate}
use Rattle.section_check.specs.Section.{potential}
use Rattle.bytecode_model.specs.Program.{Program}
use Rattle.priced_cert.specs.declared.prices.Price.{Price}
use Rattle.priced_cert.specs.declared.prices.RootPrice.{RootPrice}
use Rattle.priced_cert.specs.Certificate.{PricedCertificate}
use Rattle.fact_rules.specs.Laws.{AreClosedIfEndless, unpriced}
use Rattle.bound_finder.specs.Certified.{AreEmptyIfEndless}

-- the parts of a certificate
plain_of : (c plain : Certificate) (version root : ℕ) (sections : List CertSection) (bound : Option ℕ)
    → plain ≡ record { version = version; root = root; sections = sections; bound = bound } → version ≡ c.version → root ≡ c.root → sections ≡ c.sections
    → plain ≡ record c { bound = bound }
plain_of c plain version root sections bound is v r s =
    let V : ℕ → Certificate = λ x. record { version = x; root = root; sections = sections; bound = bound } in
    let R : ℕ → Certificate = λ x. record { version = c.version; root = x; sections = sections; bound = bound } in
    let S : List CertSection → Certificate = λ x. record { version = c.version; root = c.root; sections = x; bound = bound } in
    is ∙ (ap V v ∙ (ap R r ∙ ap S s))

pub unpriced_of : (c : Certificate) (p : PricedCertificate) (plain : Certificate) (root_prices : List RootPrice) (prices : List (List Price)) (bound : Option ℕ) (n : ℕ)
    → p ≡ record { plain = plain; root_prices = root_prices; prices = prices } → plain ≡ record c { bound = bound } → root_prices ≡ [] → prices ≡ replicate n []
    → n ≡ length c.sections → p ≡ unpriced c bound
unpriced_of c p plain root_prices prices bound n is plain_is none each long =
    let A : Certificate → PricedCertificate = λ x. record { plain = x; root_prices = root_prices; prices = prices } in
    let B : List RootPrice → PricedCertificate = λ x. record { plain = record c { bound = bound }; root_prices = x; prices = prices } in
    let C : List (List Price) → PricedCertificate = λ x. record { plain = record c { bound = bound }; root_prices = []; prices = x } in
    let nothing : List Price = [] in
    let all : prices ≡ map (λ (s : CertSection). nothing) c.sections = each ∙ splat_is_map c.sections n nothing (sym long) in
    is ∙ (ap A plain_is ∙ (ap B none ∙ ap C all))

pub unpriced_parts : (c : Certificate) (p : PricedCertificate) (plain : Certificate) (root_prices : List RootPrice) (prices : List (List Price)) (version root : ℕ)
    (sections : List CertSection) (bound : Option ℕ) (n : ℕ) → p ≡ record { plain = plain; root_prices = root_prices; prices = prices }
    → plain ≡ record { version = version; root = root; sections = sections; bound = bound } → version ≡ c.version → root ≡ c.root → sections ≡ c.sections
    → root_prices ≡ [] → prices ≡ replicate n [] → n ≡ length sections → p ≡ unpriced c bound
unpriced_parts c p plain root_prices prices version root sections bound n is plain_is v r s none each long =
    unpriced_of c p plain root_prices prices bound n is (plain_of c plain version root sections bound plain_is v r s) none each
    (long ∙ ap (λ (xs : List CertSection). length xs) s)

-- where a section lists no node, it doesn't list the first one
pub closed : (P : Program) (ss : List CertSection) → AreEmptyIfEndless P ss → AreClosedIfEndless P ss
closed P ss empty s has endless = ap (λ ns. potential ns 0) (empty s has endless)
