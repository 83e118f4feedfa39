-- The check of a section, in a table of any program.
use Rattle.std.specs.Prelude.{◌≡◌, ◌⊎◌, ℕ, Bool, List, [], ◌∷◌, ◌++◌, Option, Some, IsSome, Result}
use Rattle.std.specs.List.Sorted.{IsStrictlyIncreasing}
use Rattle.section_check.specs.Section.{Certified, listed, ArePotentials, MembersRise, HeadersRise}
use Rattle.section_check.specs.Conditions.{IsSectionAnswer}
use Rattle.section_check.specs.declared.section.SectionFault.{SectionFault}
use Rattle.certificates.specs.declared.cert.CertSection.{CertSection}
use Rattle.certificates.specs.Certificate.{Certificate}
use Rattle.bytecode_model.specs.Program.{Program, body_of}
use Rattle.method_flow.specs.Flow.{IsFlowOf}
use Rattle.method_flow.specs.Keeping.{BoundOf}
use Rattle.method_flow.specs.declared.timing.Timing.{Timing}
use Rattle.node_costs.specs.Costs.{bounds_of}
use Rattle.bound_rules.specs.declared.faults.CheckFault.{CheckFault}
use Rattle.bound_rules.specs.declared.faults.CheckFault.TheVariants.{NoMemory}
use Rattle.bound_rules.specs.Told.{Valued, section_value, SaysFull}
use Rattle.bound_rules.specs.Sections.{AreEntryLoads, LacksBound, MeetsSection, section_bounds}
use Rattle.bound_rules.specs.Conditions.{MeetAll, IsRight}
use Rattle.bound_rules.specs.Refused.{FailsLast}
use Rattle.cert_checker.specs.Setting.{CheckSetting, SectionValues}
use Rattle.cert_checker.specs.Prepared.{IsPrepared, IsUnflagged}
use Rattle.cert_checker.specs.Answer.{FailsOrMemory, FailsAmong}
use Rattle.cert_checker.specs.declared.prepared.Prepared.{Prepared}

-- what the grammar says of a section: nodes, members and headers rise, and potentials keep within 64 bits
pub record IsUsual (c : Certified) : Type 0 where
  pub nodes : IsStrictlyIncreasing (listed c.nodes)
  pub potentials : ArePotentials c.nodes
  pub members : MembersRise c.loops
  pub headers : HeadersRise c.loops

abbrev pub bounds_in : CheckSetting → BoundOf
bounds_in set = bounds_of set.flow set.bounds

-- the answer to the potentials of a section, by the fees of its loops
pub record AnswersFor (P : Program) (set : CheckSetting) (s : CertSection) (p : Prepared) (answer : Result (Option ℕ) SectionFault) : Type 0 where
  pub fees : List (Option ℕ)
  pub are_fees : AreEntryLoads P set.timing s fees
  pub answers : IsSectionAnswer p.graph p.costs.items s.section (section_bounds (bounds_in set) s) fees answer

-- u is said and flagged as no node, or heads a loop for which no bound is given
abbrev pub IsWrongBeside : BoundOf → CertSection → (flags : List Bool) → ℕ → Type 0
IsWrongBeside bound_of s flags u = IsUnflagged s.section flags u ⊎ LacksBound bound_of s u

-- for each program of the table the section meets its conditions, where this is prepared for it, and has this value
abbrev pub PreparedMeets : CheckSetting → CertSection → Prepared → (value : Option ℕ) → Type 0
PreparedMeets set s p value =
    (P : Program) (earlier : List Valued) → IsFlowOf P set.flow → IsPrepared P set.timing earlier s p
    → MeetsSection P set.timing (bounds_in set) earlier s value

-- or it fails so
abbrev pub PreparedFails : CheckSetting → CertSection → Prepared → CheckFault → Type 0
PreparedFails set s p fault =
    (P : Program) (earlier : List Valued) → IsFlowOf P set.flow → IsPrepared P set.timing earlier s p
    → FailsOrMemory P set.timing (bounds_in set) earlier s fault

-- the same behind earlier sections, without what is prepared
abbrev pub MeetsFor : CheckSetting → (earlier : List Valued) → CertSection → (value : Option ℕ) → Type 0
MeetsFor set earlier s value = (P : Program) → IsFlowOf P set.flow → MeetsSection P set.timing (bounds_in set) earlier s value

abbrev pub FailsFor : CheckSetting → (earlier : List Valued) → CertSection → CheckFault → Type 0
FailsFor set earlier s fault = (P : Program) → IsFlowOf P set.flow → FailsOrMemory P set.timing (bounds_in set) earlier s fault

-- ---- all sections

-- the section meets its conditions, and its value stands behind the others
pub record AddsSection (set : CheckSetting) (s : CertSection) (old new : SectionValues) : Type 0 where
  pub value : Option ℕ
  pub meets : MeetsFor set old.valued s value
  pub added : new ≡ record old { valued = old.valued ++ section_value s value ∷ [] }

-- for each program of the table they meet their conditions one behind the other, and these are the values of all
abbrev pub AllMeetFor : CheckSetting → List CertSection → (values : List Valued) → Type 0
AllMeetFor set ss values = (P : Program) → IsFlowOf P set.flow → MeetAll P set.timing (bounds_in set) [] ss values

-- or one of them fails so behind those before it, where of want of memory nothing is said
abbrev pub SomeFailFor : CheckSetting → List CertSection → CheckFault → Type 0
SomeFailFor set ss NoMemory = Unit {0}
SomeFailFor set ss fault = (P : Program) → IsFlowOf P set.flow → FailsAmong P set.timing (bounds_in set) ss fault

-- ---- the root

-- the root has code, the sections say this of it with all its loads, and the last line is right
pub record IsRightLast (P : Program) (t : Timing) (values : List Valued) (c : Certificate) : Type 0 where
  pub coded : IsSome (body_of P c.root)
  pub full : Option ℕ
  pub says : SaysFull P t values c.root (Some full)
  pub right : IsRight P t full c.bound

-- for each program of the table what is asked of the root holds
abbrev pub LastMeetsFor : CheckSetting → (values : List Valued) → Certificate → Type 0
LastMeetsFor set values c = (P : Program) → IsFlowOf P set.flow → IsRightLast P set.timing values c

-- or fails so
abbrev pub LastFailsFor : CheckSetting → (values : List Valued) → Certificate → CheckFault → Type 0
LastFailsFor set values c fault = (P : Program) → IsFlowOf P set.flow → FailsLast P set.timing values c fault
