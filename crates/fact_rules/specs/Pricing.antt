-- Which fact the price of a certificate is of, and what visits give back by it.
use Rattle.std.specs.Prelude.{ℕ, ◌+◌, ◌*◌, ◌==◌, ◌&&◌, Bool, true, false, if◌then◌else◌, List, [], ◌∷◌, ◌++◌, map, flat_map, sum_by, Option, Some, None}
use Rattle.std.specs.Prelude.{option_map}
use Rattle.std.specs.Option.{option_to_list, option_map_or}
use Rattle.certificates.specs.declared.cert.CertSection.{CertSection}
use Rattle.flow_facts.specs.declared.facts.Scope.{Scope}
use Rattle.flow_facts.specs.declared.facts.Scope.TheVariants.{Own, Per, In}
use Rattle.flow_facts.specs.Facts.{CountFact, Facts}
use Rattle.priced_cert.specs.declared.prices.Price.{Price}
use Rattle.priced_cert.specs.declared.prices.RootPrice.{RootPrice}
use Rattle.priced_cert.specs.Certificate.{PricedCertificate}
use Rattle.priced_sections.specs.Prices.{PricedFact, credit_of}

-- ---- sections

-- a section and the prices of its method's facts
pub record PricedSection : Type 0 where
  pub plain : CertSection
  pub prices : List Price

-- the sections of a certificate with their prices; a section for which no list of prices is given has none
abbrev pub with_prices : List CertSection → List (List Price) → List PricedSection
with_prices [] prices = []
with_prices (s ∷ ss) [] = record { plain = s; prices = [] } ∷ with_prices ss []
with_prices (s ∷ ss) (xs ∷ prices) = record { plain = s; prices = xs } ∷ with_prices ss prices

-- ---- the fact of a price

-- these are the node, and no other
abbrev pub is_just : (node : ℕ) → List ℕ → Bool
is_just u [] = false
is_just u (v ∷ []) = v == u
is_just u (v ∷ w ∷ nodes) = false

-- visits are counted in an activation of the method where the price names no header, and else from entry to entry of the loop with this header
abbrev pub is_scope_of : (header : Option ℕ) → Scope → Bool
is_scope_of None Own = true
is_scope_of (Some h) (Per p) = h == 2 * p
is_scope_of header scope = false

-- visits are counted in an activation of the root
abbrev pub is_in_root : (root : ℕ) → Scope → Bool
is_in_root root (In r) = r == root
is_in_root root scope = false

-- the first fact of just this node of the method that has such a scope
abbrev pub fact_at : List CountFact → (method node : ℕ) → (is_scope : Scope → Bool) → Option CountFact
fact_at [] m u is_scope = None
fact_at (f ∷ fs) m u is_scope = if f.method == m && is_just u f.nodes && is_scope f.scope then Some f else fact_at fs m u is_scope

-- the facts that are given, the method that a certificate is about, and the prices of facts that count in an activation of it
pub record Pricing : Type 0 where
  pub facts : Facts
  pub root : ℕ
  pub root_prices : List RootPrice

abbrev pub pricing_of : Facts → PricedCertificate → Pricing
pricing_of facts c = record { facts = facts; root = c.plain.root; root_prices = c.root_prices }

-- the fact that a price of a section of the method is of
abbrev pub fact_of : Facts → (method : ℕ) → Price → Option CountFact
fact_of facts m x = fact_at facts.counts m x.node (is_scope_of x.header)

-- the fact that a price in the root is of
abbrev pub root_fact_of : Pricing → RootPrice → Option CountFact
root_fact_of q x = fact_at q.facts.counts x.method x.node (is_in_root q.root)

-- ---- the prices of the text

-- the price of a visit of a node of a method, and the fact that it is of, if there is one
pub record PlacedPrice : Type 0 where
  pub method : ℕ
  pub node : ℕ
  pub fact : Option CountFact

abbrev pub placed_in_root : Pricing → RootPrice → PlacedPrice
placed_in_root q x = record { method = x.method; node = x.node; fact = root_fact_of q x }

abbrev pub placed_in : Facts → (method : ℕ) → Price → PlacedPrice
placed_in facts m x = record { method = m; node = x.node; fact = fact_of facts m x }

-- in the order of the text: those in the root, and then those of each section
abbrev pub placed_prices : Pricing → List PricedSection → List PlacedPrice
placed_prices q ss = map (placed_in_root q) q.root_prices ++ flat_map (λ s. map (placed_in q.facts s.plain.method) s.prices) ss

-- ---- facts with prices

-- A price without a fact counts for nothing here; that each has one is asked of the certificate.
abbrev pub with_price : (node : ℕ) (header : Option ℕ) (price : ℕ) → Option CountFact → List PricedFact
with_price u header price fact = option_to_list (option_map (λ f. record { nodes = u ∷ []; most = f.most; header = header; price = price }) fact)

-- the facts of a section's method that have prices there
abbrev pub own_facts : Facts → PricedSection → List PricedFact
own_facts facts s = flat_map (λ x. with_price x.node x.header x.price (fact_of facts s.plain.method x)) s.prices

-- the facts of a method that have prices in the root
abbrev pub root_facts : Pricing → (method : ℕ) → List PricedFact
root_facts q m = flat_map (λ x. if x.method == m then with_price x.node None x.price (root_fact_of q x) else []) q.root_prices

-- what a visit of a node of the section's method gives back of all these
abbrev pub credit : Pricing → PricedSection → (node : ℕ) → ℕ
credit q s u = credit_of (own_facts q.facts s) u + credit_of (root_facts q s.plain.method) u

-- what an activation of the root pays for the prices there
abbrev pub root_due : Pricing → ℕ
root_due q = sum_by (λ x. x.price * option_map_or (λ f. f.most) (root_fact_of q x) 0) q.root_prices
