-- Worked examples of certificates with prices, over the sample program of graphs of methods: its method 1 returns.
use Rattle.std.specs.Prelude.{◌≡◌, ◌≢◌, ℕ, ◌+◌, ◌*◌, ◌≤◌, ℤ, pos, negsuc, ◌-ℤ◌, List, [], ◌∷◌, Option, Some, None}
use Rattle.micro_flow.specs.Costs.{IsGreatestInvoke}
use Rattle.method_flow.specs.Nodes.{At}
use Rattle.method_flow.specs.Keeping.{BoundOf}
use Rattle.method_flow.specs.declared.timing.Timing.{Timing}
use Rattle.method_flow.specs.Costs.{params, IsOwnCost}
use Rattle.method_flow.specs.Examples.{sample}
use Rattle.bound_rules.specs.declared.faults.CheckFault.TheVariants.{Region}
use Rattle.bound_rules.specs.Told.{most_cycles}
use Rattle.bound_rules.specs.Examples.{timing, inside_section}
use Rattle.flow_facts.specs.declared.facts.Scope.{Scope}
use Rattle.flow_facts.specs.declared.facts.Scope.TheVariants.{Own, Per, In}
use Rattle.flow_facts.specs.Facts.{CountFact, Facts, no_facts}
use Rattle.priced_cert.specs.declared.prices.Price.{Price}
use Rattle.priced_cert.specs.declared.prices.RootPrice.{RootPrice}
use Rattle.priced_cert.specs.Certificate.{PricedCertificate}
use Rattle.fact_rules.specs.declared.faults.PricedFault.TheVariants as faults
use Rattle.fact_rules.specs.Pricing.{PricedSection, Pricing, fact_of, root_fact_of, own_facts, root_facts, credit, root_due}
use Rattle.fact_rules.specs.Sections.{MeetsPriced}
use Rattle.fact_rules.specs.Conditions.{IsCallersLoad, IsPricedLine, MeetsPrices}
use Rattle.fact_rules.specs.Refused.{IsRefusedWithPrices}

-- ---- which fact a price is of

abbrev pub at_most : (method : ℕ) → (nodes : List ℕ) → (most : ℕ) → Scope → CountFact
at_most m nodes n scope = record { method = m; nodes = nodes; most = n; scope = scope }

abbrev pub some_facts : Facts
some_facts = record {
  counts =
      at_most 1 (2 ∷ []) 4 (Per 1) ∷ at_most 1 (2 ∷ []) 6 Own ∷ at_most 1 (2 ∷ []) 7 Own ∷ at_most 1 (4 ∷ 6 ∷ []) 8 Own
      ∷ at_most 1 (2 ∷ []) 9 (In 5)
      ∷ [];
  targets = [];
}

abbrev pub price : (node : ℕ) → (header : Option ℕ) → (price : ℕ) → Price
price u header x = record { node = u; header = header; price = x }

abbrev pub root_price : (method node : ℕ) → (price : ℕ) → RootPrice
root_price m u x = record { method = m; node = u; price = x }

-- the prices of facts in an activation of this method
abbrev pub in_root : (root : ℕ) → Pricing
in_root root = record { facts = some_facts; root = root; root_prices = root_price 1 2 100 ∷ [] }

-- prices of a section of this method: of the instruction at place 1 in the activation, and from entry to entry of the loop with its header there
abbrev pub two_prices : (method : ℕ) → PricedSection
two_prices m = record { plain = inside_section m []; prices = price 2 None 10 ∷ price 2 (Some 2) 3 ∷ [] }

pub record Priced : Type 0 where
  -- of the first fact that is given in the scope
  pub own : fact_of some_facts 1 (price 2 None 10) ≡ Some (at_most 1 (2 ∷ []) 6 Own)
  pub per : fact_of some_facts 1 (price 2 (Some 2) 3) ≡ Some (at_most 1 (2 ∷ []) 4 (Per 1))
  -- not of the entries of another loop, of a raise step, of one node of several, or of another method
  pub other_loop : fact_of some_facts 1 (price 2 (Some 4) 3) ≡ None
  pub raise_step : fact_of some_facts 1 (price 2 (Some 3) 3) ≡ None
  pub several : fact_of some_facts 1 (price 4 None 10) ≡ None
  pub other_method : fact_of some_facts 2 (price 2 None 10) ≡ None
  -- only in the activation of its root
  pub in_its_root : root_fact_of (in_root 5) (root_price 1 2 100) ≡ Some (at_most 1 (2 ∷ []) 9 (In 5))
  pub in_another : root_fact_of (in_root 1) (root_price 1 2 100) ≡ None
  -- with what they allow and cost
  pub facts_are : own_facts some_facts (two_prices 1)
      ≡ record { nodes = 2 ∷ []; most = 6; header = None; price = 10 } ∷ record { nodes = 2 ∷ []; most = 4; header = Some 2; price = 3 } ∷ []
  pub none_elsewhere : own_facts some_facts (two_prices 2) ≡ []
  -- a visit gives back all prices of the node, that in the root, too; the root pays for nine visits
  pub given_back : credit (in_root 5) (two_prices 1) 2 ≡ 113
  pub not_elsewhere : credit (in_root 5) (two_prices 1) 4 ≡ 0
  pub without_root : credit (in_root 1) (two_prices 1) 2 ≡ 13
  pub of_its_method : root_facts (in_root 5) 2 ≡ []
  pub due : root_due (in_root 5) ≡ 900

-- ---- a section

-- the facts that the return is visited at most so often, in an activation and in one of the root
abbrev pub return_facts : (most root_most : ℕ) → Facts
return_facts n k = record { counts = at_most 1 (0 ∷ []) n Own ∷ at_most 1 (0 ∷ []) k (In 1) ∷ []; targets = [] }

abbrev pub return_pricing : (most root_most : ℕ) → List RootPrice → Pricing
return_pricing n k prices = record { facts = return_facts n k; root = 1; root_prices = prices }

-- the section of the return, with this potential and these prices
abbrev pub return_section : ℤ → List Price → PricedSection
return_section z prices = record { plain = inside_section 1 ((0, z) ∷ []); prices = prices }

-- a return that costs c, which is visited once
pub record ReturnWithPrice (t : Timing) (bound_of : BoundOf) (c : ℕ) : Type 0 where
  -- one visit at the price 5: it gives 5 back, and the activation pays 5
  pub once : MeetsPriced sample t bound_of (return_pricing 1 1 []) [] (return_section (pos c -ℤ pos 5) (price 0 None 5 ∷ [])) (Some c)
  -- no visit: with the price c + 7 the value would be -7, and counts as 0
  pub never : MeetsPriced sample t bound_of (return_pricing 0 1 []) [] (return_section (negsuc 6) (price 0 None (c + 7) ∷ [])) (Some 0)
  -- where the price is in the root, a visit gives it back, and the activation pays nothing
  pub in_the_root : (d : ℕ) → c ≡ d + 5 → MeetsPriced sample t bound_of (return_pricing 1 1 (root_price 1 0 5 ∷ [])) [] (return_section (pos d) []) (Some d)

abbrev pub ReturnsWithPrice : Type 0
ReturnsWithPrice = (t : Timing) (bound_of : BoundOf) (c : ℕ) → IsOwnCost sample t 1 (At 0) c → c ≤ most_cycles → ReturnWithPrice t bound_of c

-- ---- certificates

abbrev pub return_certificate : ℤ → List RootPrice → List Price → (bound : Option ℕ) → PricedCertificate
return_certificate z root_prices prices bound = record {
  plain = record { version = 2; root = 1; sections = inside_section 1 ((0, z) ∷ []) ∷ []; bound = bound };
  root_prices = root_prices;
  prices = prices ∷ [];
}

-- a price without a fact is told before all else, one in the root before those of sections
pub record PricesWithoutFacts (t : Timing) (bound_of : BoundOf) (z : ℤ) (bound : Option ℕ) : Type 0 where
  pub no_fact : IsRefusedWithPrices sample t bound_of no_facts (return_certificate z [] (price 0 None 5 ∷ []) bound) (faults.Price 1 0)
  pub second : IsRefusedWithPrices sample t bound_of (return_facts 1 1) (return_certificate z [] (price 0 None 5 ∷ price 1 None 5 ∷ []) bound)
      (faults.Price 1 1)
  pub other_scope : IsRefusedWithPrices sample t bound_of (return_facts 1 1) (return_certificate z [] (price 0 (Some 0) 5 ∷ []) bound) (faults.Price 1 0)
  pub root_first : IsRefusedWithPrices sample t bound_of no_facts (return_certificate z (root_price 2 4 5 ∷ []) (price 0 None 5 ∷ []) bound) (faults.Price 2 4)

abbrev pub RefusedPrices : Type 0
RefusedPrices = (t : Timing) (bound_of : BoundOf) (z : ℤ) (bound : Option ℕ) → PricesWithoutFacts t bound_of z bound

-- a number of 100 with all loads, where the root pays 900 for prices there; and one that never ends
pub record LastLine (invoke back : ℕ) : Type 0 where
  pub line : IsPricedLine sample timing 1 900 (Some 100) (Some (invoke + 1000 + back))
  pub never : IsPricedLine sample timing 1 900 None None

abbrev pub LastLines : Type 0
LastLines = (invoke back : ℕ) → IsGreatestInvoke (params timing 0 0) invoke → IsCallersLoad sample 1 1 back → LastLine invoke back

-- A return that costs d + 2, with an own price of 5 and one of 2 in the root: the section's value is d, the load 7, and the root pays 2. The last line is
-- the dearest invoke, all that, and the greatest load of a caller.
pub record ReturnCertificate (bound_of : BoundOf) (d invoke back : ℕ) : Type 0 where
  pub holds : MeetsPrices sample timing bound_of (return_facts 1 1)
      (return_certificate (pos d -ℤ pos 5) (root_price 1 0 2 ∷ []) (price 0 None 5 ∷ []) (Some (invoke + (d + 7 + 2) + back)))
  pub wrong_line :
      (bound : Option ℕ) → bound ≢ Some (invoke + (d + 7 + 2) + back)
      → IsRefusedWithPrices sample timing bound_of (return_facts 1 1)
      (return_certificate (pos d -ℤ pos 5) (root_price 1 0 2 ∷ []) (price 0 None 5 ∷ []) bound) (faults.Check (Region 1))

abbrev pub ReturnCertificates : Type 0
ReturnCertificates =
    (bound_of : BoundOf) (d invoke back : ℕ) → IsOwnCost sample timing 1 (At 0) (d + 2) → IsGreatestInvoke (params timing 0 0) invoke
    → IsCallersLoad sample 1 1 back → invoke + (d + 7 + 2) + back ≤ most_cycles
    → ReturnCertificate bound_of d invoke back

-- method 0, whose code is nine words, may call method 1, whose code is one: its load counts
abbrev pub CallersCount : Type 0
CallersCount = (back : ℕ) → IsCallersLoad sample 1 1 back → 4 + 9 * 3 ≤ back

pub record WorkedExamples : Type 0 where
  pub priced : Priced
  pub returns : ReturnsWithPrice
  pub refused : RefusedPrices
  pub lines : LastLines
  pub certificates : ReturnCertificates
  pub callers : CallersCount
