-- Why a certificate with prices is refused: by the first price without a fact, then section by section, and last by the root.
use Rattle.std.specs.Prelude.{◌≡◌, ◌⊎◌, ℕ, List, [], ◌∷◌, ◌++◌, Option, Some, None, IsSome}
use Rattle.section_check.specs.Least.{IsLeast}
use Rattle.bytecode_model.specs.Program.{Program, body_of}
use Rattle.method_flow.specs.Keeping.{BoundOf}
use Rattle.method_flow.specs.declared.timing.Timing.{Timing}
use Rattle.bound_rules.specs.declared.faults.CheckFault.{CheckFault}
use Rattle.bound_rules.specs.declared.faults.CheckFault.TheVariants.{Missing, Member, Edge, Exit, Region, NoMemory}
use Rattle.bound_rules.specs.Told.{Valued, SaysFull}
use Rattle.bound_rules.specs.Sections.{SectionView, IsNoNode, LacksBound, section_bounds}
use Rattle.bound_rules.specs.Refused.{NoneLacks, FailsAtTarget}
use Rattle.flow_facts.specs.Facts.{Facts}
use Rattle.priced_cert.specs.Certificate.{PricedCertificate}
use Rattle.priced_sections.specs.Prices.{PricedFact}
use Rattle.priced_sections.specs.Paid.{paying, EdgesPay}
use Rattle.priced_sections.specs.Answers.{IsOutOfPlace, IsFirstUnpaidEdge, IsFirstUnpaidExit}
use Rattle.fact_rules.specs.declared.faults.PricedFault.{PricedFault}
use Rattle.fact_rules.specs.declared.faults.PricedFault.TheVariants.{Price, Check}
use Rattle.fact_rules.specs.Pricing.{PricedSection, Pricing, PlacedPrice, placed_prices, pricing_of, own_facts, credit, root_due}
use Rattle.fact_rules.specs.Sections.{MeetAllPriced}
use Rattle.fact_rules.specs.Conditions.{IsPricedRight, AreOfFacts, sections_of}

-- ---- prices

-- the first price without a fact is of this node of the method
pub record IsFirstWithoutFact (xs : List PlacedPrice) (m u : ℕ) : Type 0 where
  pub before : List PlacedPrice
  pub price : PlacedPrice
  pub after : List PlacedPrice
  pub split : xs ≡ before ++ price ∷ after
  pub first : AreOfFacts before
  pub none : price.fact ≡ None
  pub method : price.method ≡ m
  pub node : price.node ≡ u

-- ---- a section

-- u is wrong among the listed nodes, the loops and the facts of the section
abbrev pub IsWrongIn : {P : Program} {t : Timing} {earlier : List Valued} (bound_of : BoundOf) (facts : List PricedFact) (s : PricedSection)
    → SectionView P t earlier s.plain → ℕ → Type 0
IsWrongIn {P} bound_of fs s view u = IsOutOfPlace view.graph s.plain.section (section_bounds bound_of s.plain) view.fees fs u
    ⊎ (IsNoNode P s.plain view.told u ⊎ LacksBound bound_of s.plain u)

-- no target is absent, and u is the least node that is wrong
pub record FailsInPlace (P : Program) (t : Timing) (bound_of : BoundOf) (q : Pricing) (earlier : List Valued) (s : PricedSection) (u : ℕ) : Type 0 where
  pub view : SectionView P t earlier s.plain
  pub present : NoneLacks view
  pub least : IsLeast (IsWrongIn bound_of (own_facts q.facts s) s view) (Some u)

-- nor is a node wrong, and the edge from u to v is the first that doesn't pay
pub record FailsAlongEdge (P : Program) (t : Timing) (bound_of : BoundOf) (q : Pricing) (earlier : List Valued) (s : PricedSection) (u v : ℕ) : Type 0 where
  pub view : SectionView P t earlier s.plain
  pub present : NoneLacks view
  pub placed : (x : ℕ) → ¬ IsWrongIn bound_of (own_facts q.facts s) s view x
  pub first : IsFirstUnpaidEdge view.graph view.costs (credit q s) s.plain.section
      (paying s.plain.section (section_bounds bound_of s.plain) view.fees (own_facts q.facts s)) u v

-- nor doesn't an edge pay, and u is the first exit that doesn't
pub record FailsOnExit (P : Program) (t : Timing) (bound_of : BoundOf) (q : Pricing) (earlier : List Valued) (s : PricedSection) (u : ℕ) : Type 0 where
  pub view : SectionView P t earlier s.plain
  pub present : NoneLacks view
  pub placed : (x : ℕ) → ¬ IsWrongIn bound_of (own_facts q.facts s) s view x
  pub edges : EdgesPay view.graph view.costs (credit q s) s.plain.section
      (paying s.plain.section (section_bounds bound_of s.plain) view.fees (own_facts q.facts s))
  pub first : IsFirstUnpaidExit view.graph view.costs (credit q s) s.plain.section u

-- the first condition that fails of a section behind earlier ones; before all others, its method has code
abbrev pub PricedSectionFails : Program → Timing → BoundOf → Pricing → (earlier : List Valued) → PricedSection → CheckFault → Type 0
PricedSectionFails P t bound_of q earlier s (Missing x) = ((x ≡ s.plain.method) × (body_of P s.plain.method ≡ None)) ⊎ FailsAtTarget P t earlier s.plain x
PricedSectionFails P t bound_of q earlier s (Member m u) = (m ≡ s.plain.method) × FailsInPlace P t bound_of q earlier s u
PricedSectionFails P t bound_of q earlier s (Edge m u v) = (m ≡ s.plain.method) × FailsAlongEdge P t bound_of q earlier s u v
PricedSectionFails P t bound_of q earlier s (Exit m u) = (m ≡ s.plain.method) × FailsOnExit P t bound_of q earlier s u
PricedSectionFails P t bound_of q earlier s (Region m) = ⊥
PricedSectionFails P t bound_of q earlier s NoMemory = ⊥

-- ---- the root

-- the sections say this of the root with all its loads, and the last line isn't right
pub record HasWrongPricedLine (P : Program) (t : Timing) (values : List Valued) (q : Pricing) (bound : Option ℕ) : Type 0 where
  pub coded : IsSome (body_of P q.root)
  pub full : Option ℕ
  pub says : SaysFull P t values q.root (Some full)
  pub wrong : ¬ IsPricedRight P t q.root (root_due q) full bound

-- what fails at the root, where all sections meet their conditions: it has no code, it is absent, or the last line isn't right
abbrev pub PricedFailsLast : Program → Timing → (values : List Valued) → Pricing → (bound : Option ℕ) → CheckFault → Type 0
PricedFailsLast P t values q bound (Missing m) = (m ≡ q.root) × ((body_of P q.root ≡ None) ⊎ (IsSome (body_of P q.root) × SaysFull P t values q.root None))
PricedFailsLast P t values q bound (Region m) = (m ≡ q.root) × HasWrongPricedLine P t values q bound
PricedFailsLast P t values q bound fault = ⊥

-- ---- a certificate

-- the fault of sections with prices, each of which is of a fact: that of the first section that fails, behind sections that meet their conditions; or what
-- fails at the root
pub data AreSectionsRefused (P : Program) (t : Timing) (bound_of : BoundOf) (q : Pricing) (ss : List PricedSection) (bound : Option ℕ) (fault : CheckFault)
    : Type 0 where
  in_section : (before after : List PricedSection) (s : PricedSection) (earlier : List Valued) → ss ≡ before ++ s ∷ after
      → MeetAllPriced P t bound_of q [] before earlier
      → PricedSectionFails P t bound_of q earlier s fault → AreSectionsRefused P t bound_of q ss bound fault
  at_end : (values : List Valued) → MeetAllPriced P t bound_of q [] ss values → PricedFailsLast P t values q bound fault
      → AreSectionsRefused P t bound_of q ss bound fault

-- the fault of a certificate: that of its first price without a fact, or else that of its sections
abbrev pub IsRefusedWithPrices : Program → Timing → BoundOf → Facts → PricedCertificate → PricedFault → Type 0
IsRefusedWithPrices P t bound_of facts c (Price m u) = IsFirstWithoutFact (placed_prices (pricing_of facts c) (sections_of c)) m u
IsRefusedWithPrices P t bound_of facts c (Check fault) = AreOfFacts (placed_prices (pricing_of facts c) (sections_of c))
    × AreSectionsRefused P t bound_of (pricing_of facts c) (sections_of c) c.plain.bound fault

-- the same, where of want of memory nothing is said
abbrev pub IsRefusedWithPricesOrMemory : Program → Timing → BoundOf → Facts → PricedCertificate → PricedFault → Type 0
IsRefusedWithPricesOrMemory P t bound_of facts c (Check NoMemory) = Unit {0}
IsRefusedWithPricesOrMemory P t bound_of facts c fault = IsRefusedWithPrices P t bound_of facts c fault
