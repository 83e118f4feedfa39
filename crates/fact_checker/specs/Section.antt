-- The check of the sections and of the root of a certificate with prices, in a table of any program.
use Rattle.std.specs.Prelude.{◌≡◌, ℕ, ◌+◌, List, [], ◌∷◌, ◌++◌, Option, Some, IsSome, Result}
use Rattle.section_check.specs.declared.section.SectionFault.{SectionFault}
use Rattle.micro_flow.specs.Costs.{IsGreatestInvoke}
use Rattle.bytecode_model.specs.Program.{Program, body_of}
use Rattle.method_flow.specs.Costs.{params}
use Rattle.method_flow.specs.Flow.{IsFlowOf}
use Rattle.method_flow.specs.Keeping.{BoundOf}
use Rattle.method_flow.specs.declared.timing.Timing.{Timing}
use Rattle.bound_rules.specs.declared.faults.CheckFault.{CheckFault}
use Rattle.bound_rules.specs.declared.faults.CheckFault.TheVariants.{NoMemory}
use Rattle.bound_rules.specs.Told.{Valued, section_value, SaysFull}
use Rattle.bound_rules.specs.Sections.{AreEntryLoads, section_bounds}
use Rattle.cert_checker.specs.Setting.{CheckSetting, SectionValues}
use Rattle.cert_checker.specs.Prepared.{IsPrepared}
use Rattle.cert_checker.specs.Section.{bounds_in}
use Rattle.cert_checker.specs.declared.prepared.Prepared.{Prepared}
use Rattle.priced_sections.specs.Answers.{IsPaidAnswer}
use Rattle.fact_rules.specs.Pricing.{PricedSection, Pricing, own_facts, credit, root_due}
use Rattle.fact_rules.specs.Sections.{MeetsPriced, MeetAllPriced}
use Rattle.fact_rules.specs.Conditions.{IsCallersLoad, IsPricedRight}
use Rattle.fact_rules.specs.Refused.{PricedSectionFails, PricedFailsLast}

-- ---- a section

-- the answer to the potentials of a section, by the fees of its loops
pub record PricedAnswersFor (P : Program) (set : CheckSetting) (q : Pricing) (s : PricedSection) (p : Prepared) (answer : Result (Option ℕ) SectionFault)
    : Type 0 where
  pub fees : List (Option ℕ)
  pub are_fees : AreEntryLoads P set.timing s.plain fees
  pub answers : IsPaidAnswer p.graph p.costs.items (credit q s) s.plain.section (section_bounds (bounds_in set) s.plain) fees (own_facts q.facts s) answer

-- a section fails so, where of want of memory nothing is said
abbrev pub PricedFailsOrMemory : Program → Timing → BoundOf → Pricing → (earlier : List Valued) → PricedSection → CheckFault → Type 0
PricedFailsOrMemory P t bound_of q earlier s NoMemory = Unit {0}
PricedFailsOrMemory P t bound_of q earlier s fault = PricedSectionFails P t bound_of q earlier s fault

-- for each program of the table the section meets its conditions, where this is prepared for it, and has this value
abbrev pub PricedPreparedMeets : CheckSetting → Pricing → PricedSection → Prepared → (value : Option ℕ) → Type 0
PricedPreparedMeets set q s p value =
    (P : Program) (earlier : List Valued) → IsFlowOf P set.flow → IsPrepared P set.timing earlier s.plain p
    → MeetsPriced P set.timing (bounds_in set) q earlier s value

-- or it fails so
abbrev pub PricedPreparedFails : CheckSetting → Pricing → PricedSection → Prepared → CheckFault → Type 0
PricedPreparedFails set q s p fault =
    (P : Program) (earlier : List Valued) → IsFlowOf P set.flow → IsPrepared P set.timing earlier s.plain p
    → PricedFailsOrMemory P set.timing (bounds_in set) q earlier s fault

-- the same behind earlier sections, without what is prepared
abbrev pub PricedMeetsFor : CheckSetting → Pricing → (earlier : List Valued) → PricedSection → (value : Option ℕ) → Type 0
PricedMeetsFor set q earlier s value = (P : Program) → IsFlowOf P set.flow → MeetsPriced P set.timing (bounds_in set) q earlier s value

abbrev pub PricedFailsFor : CheckSetting → Pricing → (earlier : List Valued) → PricedSection → CheckFault → Type 0
PricedFailsFor set q earlier s fault = (P : Program) → IsFlowOf P set.flow → PricedFailsOrMemory P set.timing (bounds_in set) q earlier s fault

-- ---- all sections

-- the section meets its conditions, and its value stands behind the others
pub record AddsPriced (set : CheckSetting) (q : Pricing) (s : PricedSection) (old new : SectionValues) : Type 0 where
  pub value : Option ℕ
  pub meets : PricedMeetsFor set q old.valued s value
  pub added : new ≡ record old { valued = old.valued ++ section_value s.plain value ∷ [] }

-- for each program of the table they meet their conditions one behind the other, and these are the values of all
abbrev pub AllMeetPriced : CheckSetting → Pricing → List PricedSection → (values : List Valued) → Type 0
AllMeetPriced set q ss values = (P : Program) → IsFlowOf P set.flow → MeetAllPriced P set.timing (bounds_in set) q [] ss values

-- one of these sections fails so behind those before it, which meet their conditions
pub record FailsAmongPriced (P : Program) (t : Timing) (bound_of : BoundOf) (q : Pricing) (ss : List PricedSection) (fault : CheckFault) : Type 0 where
  pub before : List PricedSection
  pub after : List PricedSection
  pub section : PricedSection
  pub earlier : List Valued
  pub split : ss ≡ before ++ section ∷ after
  pub meet : MeetAllPriced P t bound_of q [] before earlier
  pub fails : PricedSectionFails P t bound_of q earlier section fault

-- where of want of memory nothing is said
abbrev pub SomeFailPriced : CheckSetting → Pricing → List PricedSection → CheckFault → Type 0
SomeFailPriced set q ss NoMemory = Unit {0}
SomeFailPriced set q ss fault = (P : Program) → IsFlowOf P set.flow → FailsAmongPriced P set.timing (bounds_in set) q ss fault

-- ---- the root

-- what stands around the number of the root: the dearest invoke, what is due for prices, and the greatest load of a method that may call it
pub record IsAround (P : Program) (t : Timing) (root due cycles : ℕ) : Type 0 where
  pub invoke : ℕ
  pub is_invoke : IsGreatestInvoke (params t 0 0) invoke
  pub back : ℕ
  pub is_back : IsCallersLoad P t.read root back
  pub is : cycles ≡ invoke + due + back

-- the root has code, the sections say this of it with all its loads, and the last line is right
pub record IsPricedLast (P : Program) (t : Timing) (values : List Valued) (q : Pricing) (bound : Option ℕ) : Type 0 where
  pub coded : IsSome (body_of P q.root)
  pub full : Option ℕ
  pub says : SaysFull P t values q.root (Some full)
  pub right : IsPricedRight P t q.root (root_due q) full bound

-- for each program of the table what is asked of the root holds
abbrev pub PricedLastMeets : CheckSetting → (values : List Valued) → Pricing → (bound : Option ℕ) → Type 0
PricedLastMeets set values q bound = (P : Program) → IsFlowOf P set.flow → IsPricedLast P set.timing values q bound

-- or fails so
abbrev pub PricedLastFails : CheckSetting → (values : List Valued) → Pricing → (bound : Option ℕ) → CheckFault → Type 0
PricedLastFails set values q bound fault = (P : Program) → IsFlowOf P set.flow → PricedFailsLast P set.timing values q bound fault
