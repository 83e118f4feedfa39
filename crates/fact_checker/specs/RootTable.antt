-- The facts that have prices in the root, by their methods.
use Rattle.std.specs.Prelude.{◌≡◌, ℕ, ◌<◌, List, [], ◌∷◌, ◌++◌, length, slice_index_or}
use Rattle.priced_cert.specs.declared.prices.RootPrice.{RootPrice}
use Rattle.priced_sections.specs.Prices.{PricedFact}
use Rattle.fact_rules.specs.Pricing.{Pricing, root_facts}

-- for each of so many methods the facts of it that have prices in the root
pub record AreRootFacts (q : Pricing) (methods : ℕ) (table : List (List PricedFact)) : Type 0 where
  pub long : length table ≡ methods
  pub each : (m : ℕ) → m < methods → slice_index_or table m [] ≡ root_facts q m

-- behind the facts of each method stands the fact of the price, where it is of that method
pub record AddsRootFact (q : Pricing) (x : RootPrice) (old new : List (List PricedFact)) : Type 0 where
  pub long : length new ≡ length old
  pub each : (m : ℕ) → m < length old → slice_index_or new m [] ≡ slice_index_or old m [] ++ root_facts (record q { root_prices = x ∷ [] }) m
