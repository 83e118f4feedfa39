-- What follows of the conditions on certificates with prices.
use Rattle.std.specs.Prelude.{◌≡◌, ℕ, ◌+◌, ◌*◌, ◌≤◌, List, [], ◌∷◌, ◌++◌, map, sum_by, slice_index, Contains, Option, Some, None, MatchOption}
use Rattle.loop_nest.specs.Digraph.{Digraph}
use Rattle.section_check.specs.Bounded.{cost_of}
use Rattle.section_check.specs.Section.{CertifiedLoop, potential}
use Rattle.section_check.specs.Placing.{IsEntryAt}
use Rattle.section_check.specs.Laws.{loops_of}
use Rattle.certificates.specs.declared.cert.CertSection.{CertSection}
use Rattle.certificates.specs.Certificate.{Certificate}
use Rattle.bytecode_model.specs.Program.{Program}
use Rattle.method_flow.specs.Nodes.{Node, At}
use Rattle.method_flow.specs.Live.{CanEnd, IsLiveEdge, LiveWalk}
use Rattle.method_flow.specs.Graphs.{IsLiveGraph}
use Rattle.method_flow.specs.Keeping.{BoundOf, WalkKeeps}
use Rattle.method_flow.specs.declared.timing.Timing.{Timing}
use Rattle.bound_rules.specs.Told.{Valued, section_value}
use Rattle.bound_rules.specs.Sections.{IsSectionEdge, IsSectionNode, section_bounds}
use Rattle.bound_rules.specs.Conditions.{MeetsConditions}
use Rattle.flow_facts.specs.Facts.{Facts}
use Rattle.priced_cert.specs.Certificate.{PricedCertificate}
use Rattle.priced_sections.specs.Prices.{credit_of}
use Rattle.fact_rules.specs.declared.faults.PricedFault.{PricedFault}
use Rattle.fact_rules.specs.Pricing.{PricedSection, Pricing, root_facts}
use Rattle.fact_rules.specs.Keeping.{WalkKeepsFacts}
use Rattle.fact_rules.specs.Sections.{MeetsPriced, MeetAllPriced, AreMetPriced}
use Rattle.fact_rules.specs.Conditions.{IsPricedRight, MeetsPrices}
use Rattle.fact_rules.specs.Refused.{IsRefusedWithPrices}

-- ---- sections

-- the sections of a certificate that all meet their conditions are sections that meet them one behind another
abbrev pub AllAreMetPriced : Type 0
AllAreMetPriced =
    (P : Program) (t : Timing) (bound_of : BoundOf) (q : Pricing) (earlier : List Valued) (ss : List PricedSection) (values : List Valued)
    → AreMetPriced P t bound_of q earlier → MeetAllPriced P t bound_of q earlier ss values
    → AreMetPriced P t bound_of q values

-- with one more behind them that meets its conditions, they all meet theirs
abbrev pub OneMoreMeetsPriced : Type 0
OneMoreMeetsPriced =
    (P : Program) (t : Timing) (bound_of : BoundOf) (q : Pricing) (earlier : List Valued) (ss : List PricedSection) (values : List Valued) (s : PricedSection)
    (value : Option ℕ)
    → MeetAllPriced P t bound_of q earlier ss values → MeetsPriced P t bound_of q values s value
    → MeetAllPriced P t bound_of q earlier (ss ++ s ∷ []) (values ++ section_value s.plain value ∷ [])

-- the header of a loop of such a section is an instruction, and the loop has the bound that is given for it
abbrev pub PricedHeadersHaveBounds : Type 0
PricedHeadersHaveBounds =
    (P : Program) (t : Timing) (bound_of : BoundOf) (q : Pricing) (earlier : List Valued) (s : PricedSection) (value : Option ℕ)
    → MeetsPriced P t bound_of q earlier s value
    → (i : ℕ) (l : CertifiedLoop) → IsEntryAt s.plain.section.loops i l
    → (p : ℕ) × (l.header ≡ 2 * p) × (bound_of s.plain.method p ≡ Some (slice_index (section_bounds bound_of s.plain) i))

-- ---- runs

-- a method whose section has no value can't end
abbrev pub NoPricedValueNoEnd : Type 0
NoPricedValueNoEnd =
    (P : Program) (t : Timing) (bound_of : BoundOf) (q : Pricing) (earlier : List Valued) (s : PricedSection) → AreMetPriced P t bound_of q earlier
    → MeetsPriced P t bound_of q earlier s None → ¬ CanEnd P s.plain.method

-- from a node of the section's graph, each edge that a run can take is one of that graph
abbrev pub PricedLiveEdgesStay : Type 0
PricedLiveEdgesStay =
    (P : Program) (t : Timing) (bound_of : BoundOf) (q : Pricing) (earlier : List Valued) (s : PricedSection) (value : Option ℕ)
    → AreMetPriced P t bound_of q earlier
    → (h : MeetsPriced P t bound_of q earlier s value)
    → (u v : Node) → IsSectionNode P s.plain.method h.view.told u → IsLiveEdge P s.plain.method u v → IsSectionEdge P s.plain.method h.view.told u v

-- What a walk costs that a run can take, from the first instruction to an exit, is at most the section's value, and what its visits give back by prices in
-- the root, where it keeps the bounds and the facts that are given. Where the section has no value, there is no such walk.
abbrev pub PricedSectionsBoundWalks : Type 0
PricedSectionsBoundWalks =
    (P : Program) (t : Timing) (bound_of : BoundOf) (q : Pricing) (earlier : List Valued) (s : PricedSection) (value : Option ℕ)
    → AreMetPriced P t bound_of q earlier
    → (h : MeetsPriced P t bound_of q earlier s value)
    → (g : Digraph) → IsLiveGraph P s.plain.method g → (ns : List ℕ) → LiveWalk P s.plain.method (At 0) ns → WalkKeeps P bound_of s.plain.method ns
    → WalkKeepsFacts P q.facts s.plain.method ns
    → MatchOption value ⊥
    (λ most. cost_of h.view.costs (loops_of s.plain.section (section_bounds bound_of s.plain) h.view.fees) ns
    ≤ most + sum_by (credit_of (root_facts q s.plain.method)) ns)

-- where no price is in the root, it is at most the section's value
abbrev pub OwnPricesBoundWalks : Type 0
OwnPricesBoundWalks =
    (P : Program) (t : Timing) (bound_of : BoundOf) (q : Pricing) (earlier : List Valued) (s : PricedSection) (value : Option ℕ) → q.root_prices ≡ []
    → AreMetPriced P t bound_of q earlier
    → (h : MeetsPriced P t bound_of q earlier s value)
    → (g : Digraph) → IsLiveGraph P s.plain.method g → (ns : List ℕ) → LiveWalk P s.plain.method (At 0) ns → WalkKeeps P bound_of s.plain.method ns
    → WalkKeepsFacts P q.facts s.plain.method ns
    → MatchOption value ⊥ (λ most. cost_of h.view.costs (loops_of s.plain.section (section_bounds bound_of s.plain) h.view.fees) ns ≤ most)

-- ---- certificates without prices

-- the certificate with no prices, and with this last line
abbrev pub unpriced : Certificate → (bound : Option ℕ) → PricedCertificate
unpriced c bound = record { plain = record c { bound = bound }; root_prices = []; prices = map (λ s. []) c.sections }

-- a section of a method that can't end doesn't list its first node
abbrev pub AreClosedIfEndless : Program → List CertSection → Type 0
AreClosedIfEndless P ss = (s : CertSection) → Contains ss s → ¬ CanEnd P s.method → potential s.section.nodes 0 ≡ None

-- such a certificate that meets its conditions meets those on one with prices, whatever the facts, where its last line is right for one
abbrev pub PlainIsPriced : Type 0
PlainIsPriced =
    (P : Program) (t : Timing) (bound_of : BoundOf) (facts : Facts) (c : Certificate) (bound : Option ℕ) → AreClosedIfEndless P c.sections
    → (h : MeetsConditions P t bound_of c) → IsPricedRight P t c.root 0 h.full bound
    → MeetsPrices P t bound_of facts (unpriced c bound)

-- ---- refusals

-- a certificate has one fault at most
abbrev pub PricedFaultsAreOne : Type 0
PricedFaultsAreOne =
    (P : Program) (t : Timing) (bound_of : BoundOf) (facts : Facts) (c : PricedCertificate) (a b : PricedFault)
    → IsRefusedWithPrices P t bound_of facts c a → IsRefusedWithPrices P t bound_of facts c b → a ≡ b

-- and none where it meets the conditions
abbrev pub PricedRefusedIsNotMet : Type 0
PricedRefusedIsNotMet =
    (P : Program) (t : Timing) (bound_of : BoundOf) (facts : Facts) (c : PricedCertificate) (fault : PricedFault)
    → IsRefusedWithPrices P t bound_of facts c fault → ¬ MeetsPrices P t bound_of facts c

-- it has one last line at most, by the number of the root
abbrev pub PricedLineIsTold : Type 0
PricedLineIsTold =
    (P : Program) (t : Timing) (root due : ℕ) (full a b : Option ℕ) → IsPricedRight P t root due full a → IsPricedRight P t root due full b → a ≡ b
