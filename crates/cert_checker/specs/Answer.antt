-- How the answer of a section's check follows from those of its parts.
use Rattle.std.specs.Prelude.{◌≡◌, ℕ, ◌≤◌, List, [], ◌∷◌, ◌++◌, Option, Some, None, Result, Ok, Err}
use Rattle.bound_texts.specs.Loops.Bounds.{LoopBound}
use Rattle.section_check.specs.Least.{lesser_of}
use Rattle.section_check.specs.declared.section.SectionFault.{SectionFault}
use Rattle.section_check.specs.declared.section.SectionFault.TheVariants as faults
use Rattle.certificates.specs.declared.cert.CertSection.{CertSection}
use Rattle.certificates.specs.Certificate.{Certificate}
use Rattle.bytecode_model.specs.Program.{Program}
use Rattle.method_flow.specs.Flow.{Flow, IsFlowOf}
use Rattle.method_flow.specs.Keeping.{BoundOf}
use Rattle.method_flow.specs.declared.timing.Timing.{Timing}
use Rattle.bound_rules.specs.declared.faults.CheckFault.{CheckFault}
use Rattle.bound_rules.specs.declared.faults.CheckFault.TheVariants.{Member, Edge, Exit, NoMemory}
use Rattle.bound_rules.specs.Told.{Valued}
use Rattle.bound_rules.specs.Conditions.{MeetAll, MeetsConditions}
use Rattle.bound_rules.specs.Refused.{SectionFails, IsRefusedOrMemory}

-- a wrong node, where there is one
abbrev pub at_node : (method : ℕ) → Option ℕ → (otherwise : Result (Option ℕ) CheckFault) → Result (Option ℕ) CheckFault
at_node m None otherwise = otherwise
at_node m (Some u) otherwise = Err (Member m u)

-- the answer to the section of a method, where the least node that is none or lacks a bound is known beside the answer by its potentials
abbrev pub joined : (method : ℕ) → (wrong : Option ℕ) → Result (Option ℕ) SectionFault → Result (Option ℕ) CheckFault
joined m wrong (Ok value) = at_node m wrong (Ok value)
joined m wrong (Err (faults.Member u)) = at_node m (lesser_of wrong (Some u)) (Err (Member m u))
joined m wrong (Err (faults.Edge u v)) = at_node m wrong (Err (Edge m u v))
joined m wrong (Err (faults.Exit u)) = at_node m wrong (Err (Exit m u))

-- a section fails so, where of want of memory nothing is said
abbrev pub FailsOrMemory : Program → Timing → BoundOf → (earlier : List Valued) → CertSection → CheckFault → Type 0
FailsOrMemory P t bound_of earlier s NoMemory = Unit {0}
FailsOrMemory P t bound_of earlier s fault = SectionFails P t bound_of earlier s fault

-- one of these sections fails so behind those before it, which meet their conditions
pub record FailsAmong (P : Program) (t : Timing) (bound_of : BoundOf) (ss : List CertSection) (fault : CheckFault) : Type 0 where
  pub before : List CertSection
  pub after : List CertSection
  pub section : CertSection
  pub earlier : List Valued
  pub split : ss ≡ before ++ section ∷ after
  pub meet : MeetAll P t bound_of [] before earlier
  pub fails : SectionFails P t bound_of earlier section fault

-- a certificate that was checked, with the program's table, the bounds of its loops and the timing of the machine
pub record Accepted : Type 0 where
  pub flow : Flow
  pub bounds : List LoopBound
  pub timing : Timing
  pub certificate : Certificate

-- the waits are those that a machine can have
abbrev pub HasCheckWaits : Timing → Type 0
HasCheckWaits t = (t.read ≤ 63) × (t.write ≤ 63)

-- for each program of the table the certificate meets the conditions
abbrev pub Meets : Flow → BoundOf → Timing → Certificate → Type 0
Meets f bound_of t c = (P : Program) → IsFlowOf P f → MeetsConditions P t bound_of c

-- for each program of the table it is refused so
abbrev pub Refuses : Flow → BoundOf → Timing → Certificate → CheckFault → Type 0
Refuses f bound_of t c fault = (P : Program) → IsFlowOf P f → IsRefusedOrMemory P t bound_of c fault
