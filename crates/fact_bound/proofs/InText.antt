-- What is tested place by place, of the lists.
use Rattle.std.proofs.Common.{◌≡◌, ℕ, ◌+◌, ◌<◌, ◌^◌, ℤ, pos, false, List, [], map, length, get_or, Option, refl, sym, ap, subst, ◌∙◌, inr, arith}
use Rattle.std.specs.Prelude.{◌≢◌, All}
use Rattle.std.specs.List.{AllPairs}
use Rattle.std.specs.List.Sorted.{IsStrictlyIncreasing}
use Rattle.std.proofs.lemmas.List.{get_or-map, length-map}
use Rattle.section_check.specs.Section.{CertifiedLoop, listed}
use Rattle.section_check.proofs.Rising.{listed_long}
use Rattle.certificates.specs.declared.lines.line.SectionKind.TheVariants.{Inside}
use Rattle.certificates.specs.declared.cert.CertSection.{CertSection}
use Rattle.certificates.specs.declared.cert.SectionSort.{SectionSort}
use Rattle.certificates.specs.CertLines.{IsBoundValue}
use Rattle.certificates.specs.Certificate.{Certificate, sort_of}
use Rattle.priced_cert.specs.declared.prices.Price.{Price}
use Rattle.priced_cert.specs.declared.prices.RootPrice.{RootPrice}
use Rattle.priced_cert.specs.Certificate.{PricedCertificate, IsPricedInGrammar}
use Rattle.fact_bound.specs.Grammar.{AreInGrammar, IsNewMethod}

-- the nodes of listed nodes are numbers of nodes
pub listed_small : (ps : List (ℕ × ℤ)) → All (λ p. p.0 < 2 ^ 32) ps → All (λ u. u < 2 ^ 32) (listed ps)
listed_small ps small k d below =
    let long = listed_long ps in
    let at = get_or-map (λ (p : ℕ × ℤ). p.0) ps k (0, pos 0) d (omega arith) in
    let lt = small k (0, pos 0) (omega arith) in
    omega arith

no_loop : CertifiedLoop
no_loop = record { header = 0; iteration_cost = 0; members = []; region = false }

-- headers that rise from each place to the next
pub headers_increasing : (ls : List CertifiedLoop) → ((k : ℕ) (d : CertifiedLoop) → k + 1 < length ls → (get_or ls k d).header < (get_or ls (k + 1) d).header)
    → IsStrictlyIncreasing (map (λ l. l.header) ls)
headers_increasing ls rise k lt =
    let h = λ (l : CertifiedLoop). l.header in
    let long : length (map h ls) ≡ length ls = length-map ls h in
    let up = rise k no_loop (omega arith) in
    let here = get_or-map h ls k no_loop 0 (omega arith) in
    let next = get_or-map h ls (k + 1) no_loop 0 (omega arith) in
    omega arith

no_section : CertSection
no_section = record { kind = Inside; method = 0; section = record { nodes = []; loops = [] } }

-- sections of methods each of which is new
pub sorts_apart : (ss : List CertSection) → ((j : ℕ) → j < length ss → IsNewMethod ss j) → AllPairs (λ a b. a ≢ b) (map sort_of ss)
sorts_apart ss new i j d lt below = λ same.
    let long : length (map sort_of ss) ≡ length ss = length-map ss sort_of in
    let at_i = get_or-map sort_of ss i no_section d (omega arith) in
    let at_j = get_or-map sort_of ss j no_section d (omega arith) in
    let one : sort_of (get_or ss i no_section) ≡ sort_of (get_or ss j no_section) = sym at_i ∙ same ∙ at_j in
    new j (omega arith) i no_section lt (ap (λ (x : SectionSort). x.method) one)

-- the certificate of version 3 with these sections and prices, and none in the root
in_grammar : (root : ℕ) (ss : List CertSection) (prices : List (List Price)) (bound : Option ℕ) → root < 2 ^ 32 → IsBoundValue bound → AreInGrammar ss prices
    → IsPricedInGrammar (record { plain = record { version = 2; root = root; sections = ss; bound = bound }; root_prices = []; prices = prices })
in_grammar root ss prices bound few small h = record {
  plain = record { version = inr refl; root = few; sections = h.text; apart = h.apart; bound = small };
  version = refl;
  kinds = h.kinds;
  root_prices = record { range = λ k d below. absurd (omega arith); rising = λ i j d lt below. absurd (omega arith) };
  each = h.each;
  prices = h.prices;
}

-- and one that is made of them
pub made_in_grammar : (c : PricedCertificate) (plain : Certificate) (none : List RootPrice) (root : ℕ) (ss : List CertSection) (prices : List (List Price)) (bound : Option ℕ)
    → c ≡ record { plain = plain; root_prices = none; prices = prices } → plain ≡ record { version = 2; root = root; sections = ss; bound = bound } → none ≡ [] → root < 2 ^ 32 → IsBoundValue bound
    → AreInGrammar ss prices → IsPricedInGrammar c × (c.plain.root ≡ root) × (c.root_prices ≡ [])
made_in_grammar c plain none root ss prices bound is plain_is none_is few small h =
    let with_plain : Certificate → PricedCertificate = λ x. record { plain = x; root_prices = none; prices = prices } in
    let with_none : List RootPrice → PricedCertificate = λ xs. record { plain = record { version = 2; root = root; sections = ss; bound = bound }; root_prices = xs; prices = prices } in
    let same = is ∙ ap with_plain plain_is ∙ ap with_none none_is in
    let P : PricedCertificate → Type 0 = λ x. IsPricedInGrammar x × (x.plain.root ≡ root) × (x.root_prices ≡ []) in
    subst P (sym same) (in_grammar root ss prices bound few small h, refl, refl)
