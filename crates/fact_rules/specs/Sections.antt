-- The conditions on a section with prices, behind sections that were checked before it.
use Rattle.std.specs.Prelude.{◌≡◌, ℕ, List, [], ◌∷◌, ◌++◌, Option}
use Rattle.bytecode_model.specs.Program.{Program}
use Rattle.method_flow.specs.Keeping.{BoundOf}
use Rattle.method_flow.specs.declared.timing.Timing.{Timing}
use Rattle.bound_rules.specs.Told.{Valued, section_value}
use Rattle.bound_rules.specs.Sections.{SectionView, IsNoNode, LacksBound, section_bounds}
use Rattle.bound_rules.specs.Refused.{NoneLacks}
use Rattle.priced_sections.specs.Paid.{paying, paid_value, IsPaid}
use Rattle.fact_rules.specs.Pricing.{PricedSection, Pricing, own_facts, credit}

-- The section meets its conditions behind the earlier ones, and has this value: as without prices, but that what visits give back and what the facts are
-- due is in the conditions on potentials and in the value. The graph, the costs and the loads are the same.
pub record MeetsPriced (P : Program) (t : Timing) (bound_of : BoundOf) (q : Pricing) (earlier : List Valued) (s : PricedSection) (value : Option ℕ)
    : Type 0 where
  pub view : SectionView P t earlier s.plain
  pub present : NoneLacks view
  pub nodes : (u : ℕ) → ¬ IsNoNode P s.plain view.told u
  pub bounded : (u : ℕ) → ¬ LacksBound bound_of s.plain u
  pub paid : IsPaid view.graph view.costs (credit q s) s.plain.section (section_bounds bound_of s.plain) view.fees (own_facts q.facts s)
  pub is : value ≡ paid_value s.plain.section (paying s.plain.section (section_bounds bound_of s.plain) view.fees (own_facts q.facts s)) (own_facts q.facts s)

-- each of these sections meets its conditions behind the earlier ones and those before it; in the end these are the values of all
abbrev pub MeetAllPriced : Program → Timing → BoundOf → Pricing → (earlier : List Valued) → List PricedSection → (values : List Valued) → Type 0
MeetAllPriced P t bound_of q earlier [] values = values ≡ earlier
MeetAllPriced P t bound_of q earlier (s ∷ ss) values =
    (value : Option ℕ) × MeetsPriced P t bound_of q earlier s value
    × MeetAllPriced P t bound_of q (earlier ++ section_value s.plain value ∷ []) ss values

-- the values of sections each of which meets its conditions behind those before it
pub data AreMetPriced (P : Program) (t : Timing) (bound_of : BoundOf) (q : Pricing) : List Valued → Type 0 where
  nothing : AreMetPriced P t bound_of q []
  one_more : {earlier : List Valued} → AreMetPriced P t bound_of q earlier → (s : PricedSection) (value : Option ℕ)
      → MeetsPriced P t bound_of q earlier s value
      → AreMetPriced P t bound_of q (earlier ++ section_value s.plain value ∷ [])
