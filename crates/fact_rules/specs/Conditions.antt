-- The last line of a certificate with prices, and the conditions on it.
use Rattle.std.specs.Prelude.{◌≡◌, ℕ, ◌+◌, ◌≤◌, List, [], Contains, Option, Some, IsSome, option_map, unwrap_or}
use Rattle.micro_flow.specs.Costs.{IsGreatestInvoke}
use Rattle.bytecode_model.specs.Program.{Program, body_of}
use Rattle.method_flow.specs.Keeping.{BoundOf}
use Rattle.method_flow.specs.Regions.{load}
use Rattle.method_flow.specs.Recursion.{MayCall}
use Rattle.method_flow.specs.declared.timing.Timing.{Timing}
use Rattle.method_flow.specs.Costs.{params}
use Rattle.bound_rules.specs.Told.{Valued, SaysFull, most_cycles}
use Rattle.flow_facts.specs.Facts.{Facts}
use Rattle.priced_cert.specs.Certificate.{PricedCertificate}
use Rattle.fact_rules.specs.Pricing.{PricedSection, with_prices, PlacedPrice, placed_prices, pricing_of, root_due}
use Rattle.fact_rules.specs.Sections.{MeetAllPriced}

-- ---- the last line

-- the greatest load of a method that may call the root takes so many cycles, and none where no method may
pub data IsCallersLoad (P : Program) (r root cycles : ℕ) : Type 0 where
  none : cycles ≡ 0 → ((x : ℕ) → ¬ MayCall P x root) → IsCallersLoad P r root cycles
  greatest : (m : ℕ) → MayCall P m root → cycles ≡ load P r m → ((x : ℕ) → MayCall P x root → load P r x ≤ cycles) → IsCallersLoad P r root cycles

-- The number with all loads, and what an activation of the root pays for prices there; before it the dearest invoke, and after it the greatest load of a
-- method to which control may come back.
pub record IsPricedLine (P : Program) (t : Timing) (root due : ℕ) (full printed : Option ℕ) : Type 0 where
  pub invoke : ℕ
  pub is_invoke : IsGreatestInvoke (params t 0 0) invoke
  pub back : ℕ
  pub is_back : IsCallersLoad P t.read root back
  pub is : printed ≡ option_map (λ n. invoke + (n + due) + back) full

-- the last line is so, and a certificate can hold it
pub record IsPricedRight (P : Program) (t : Timing) (root due : ℕ) (full bound : Option ℕ) : Type 0 where
  pub line : IsPricedLine P t root due full bound
  pub small : unwrap_or bound 0 ≤ most_cycles

-- ---- the certificate

-- each of these prices is of a fact
abbrev pub AreOfFacts : List PlacedPrice → Type 0
AreOfFacts xs = (x : PlacedPrice) → Contains xs x → IsSome x.fact

-- the sections of a certificate with their prices
abbrev pub sections_of : PricedCertificate → List PricedSection
sections_of c = with_prices c.plain.sections c.prices

-- Each price is of a fact, all sections meet their conditions, one behind the other, and the last line is right for the root, which has code and is not
-- absent.
pub record MeetsPrices (P : Program) (t : Timing) (bound_of : BoundOf) (facts : Facts) (c : PricedCertificate) : Type 0 where
  pub facts_are : AreOfFacts (placed_prices (pricing_of facts c) (sections_of c))
  pub values : List Valued
  pub sections : MeetAllPriced P t bound_of (pricing_of facts c) [] (sections_of c) values
  pub coded : IsSome (body_of P c.plain.root)
  pub full : Option ℕ
  pub says : SaysFull P t values c.plain.root (Some full)
  pub right : IsPricedRight P t c.plain.root (root_due (pricing_of facts c)) full c.plain.bound
