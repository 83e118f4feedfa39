-- Why a certificate is refused: by the first condition that fails, section by section, and last those on the root.
use Rattle.std.specs.Prelude.{◌≡◌, ◌⊎◌, ℕ, List, [], ◌∷◌, ◌++◌, Option, Some, None, IsSome}
use Rattle.section_check.specs.Least.{IsLeast}
use Rattle.section_check.specs.Placing.{IsMisplaced}
use Rattle.section_check.specs.Conditions.{IsFirstFailingEdge, EdgesHold, IsFirstFailingExit}
use Rattle.certificates.specs.declared.cert.CertSection.{CertSection}
use Rattle.certificates.specs.Certificate.{Certificate}
use Rattle.bytecode_model.specs.Program.{Program, body_of}
use Rattle.method_flow.specs.Keeping.{BoundOf}
use Rattle.method_flow.specs.declared.timing.Timing.{Timing}
use Rattle.bound_rules.specs.declared.faults.CheckFault.{CheckFault}
use Rattle.bound_rules.specs.declared.faults.CheckFault.TheVariants.{Missing, Member, Edge, Exit, Region, NoMemory}
use Rattle.bound_rules.specs.Told.{Valued, SaysFull}
use Rattle.bound_rules.specs.Sections.{SectionView, IsLacking, IsNoNode, LacksBound, section_bounds, section_loops}
use Rattle.bound_rules.specs.Conditions.{MeetAll, IsRight}

-- ---- a section

-- u is wrong among the listed nodes and the loops of the section
abbrev pub IsWrong : {P : Program} {t : Timing} {earlier : List Valued} {s : CertSection} → BoundOf → SectionView P t earlier s → ℕ → Type 0
IsWrong {P} {s = s} bound_of view u = IsMisplaced view.graph s.section (section_bounds bound_of s) view.fees u
    ⊎ (IsNoNode P s view.told u ⊎ LacksBound bound_of s u)

-- no invoke among the nodes may run a method that is absent
abbrev pub NoneLacks : {P : Program} {t : Timing} {earlier : List Valued} {s : CertSection} → SectionView P t earlier s → Type 0
NoneLacks {P} {s = s} view = (x : ℕ) → ¬ IsLacking P s.method view.told x

abbrev pub NoneIsWrong : {P : Program} {t : Timing} {earlier : List Valued} {s : CertSection} → BoundOf → SectionView P t earlier s → Type 0
NoneIsWrong bound_of view = (u : ℕ) → ¬ IsWrong bound_of view u

-- x is the least method that is absent and that an invoke among the nodes may run
pub record FailsAtTarget (P : Program) (t : Timing) (earlier : List Valued) (s : CertSection) (x : ℕ) : Type 0 where
  pub view : SectionView P t earlier s
  pub least : IsLeast (IsLacking P s.method view.told) (Some x)

-- no target is absent, and u is the least node that is wrong
pub record FailsAtNode (P : Program) (t : Timing) (bound_of : BoundOf) (earlier : List Valued) (s : CertSection) (u : ℕ) : Type 0 where
  pub view : SectionView P t earlier s
  pub present : NoneLacks view
  pub least : IsLeast (IsWrong bound_of view) (Some u)

-- nor is a node wrong, and the edge from u to v is the first whose condition fails
pub record FailsAtEdge (P : Program) (t : Timing) (bound_of : BoundOf) (earlier : List Valued) (s : CertSection) (u v : ℕ) : Type 0 where
  pub view : SectionView P t earlier s
  pub present : NoneLacks view
  pub placed : NoneIsWrong bound_of view
  pub first : IsFirstFailingEdge view.graph view.costs s.section (section_loops bound_of s view.fees) u v

-- nor does the condition of an edge fail, and u is the first exit whose condition fails
pub record FailsAtExit (P : Program) (t : Timing) (bound_of : BoundOf) (earlier : List Valued) (s : CertSection) (u : ℕ) : Type 0 where
  pub view : SectionView P t earlier s
  pub present : NoneLacks view
  pub placed : NoneIsWrong bound_of view
  pub edges : EdgesHold view.graph view.costs s.section (section_loops bound_of s view.fees)
  pub first : IsFirstFailingExit view.graph view.costs s.section u

-- the first condition that fails of a section behind earlier ones; before all others, its method has code
abbrev pub SectionFails : Program → Timing → BoundOf → (earlier : List Valued) → CertSection → CheckFault → Type 0
SectionFails P t bound_of earlier s (Missing x) = ((x ≡ s.method) × (body_of P s.method ≡ None)) ⊎ FailsAtTarget P t earlier s x
SectionFails P t bound_of earlier s (Member m u) = (m ≡ s.method) × FailsAtNode P t bound_of earlier s u
SectionFails P t bound_of earlier s (Edge m u v) = (m ≡ s.method) × FailsAtEdge P t bound_of earlier s u v
SectionFails P t bound_of earlier s (Exit m u) = (m ≡ s.method) × FailsAtExit P t bound_of earlier s u
SectionFails P t bound_of earlier s (Region m) = ⊥
SectionFails P t bound_of earlier s NoMemory = ⊥

-- ---- the root

-- the sections say this of the root with all its loads, and the last line isn't right
pub record HasWrongLine (P : Program) (t : Timing) (values : List Valued) (c : Certificate) : Type 0 where
  pub coded : IsSome (body_of P c.root)
  pub full : Option ℕ
  pub says : SaysFull P t values c.root (Some full)
  pub wrong : ¬ IsRight P t full c.bound

-- what fails at the root, where all sections meet their conditions: it has no code, it is absent, or the last line isn't right
abbrev pub FailsLast : Program → Timing → (values : List Valued) → Certificate → CheckFault → Type 0
FailsLast P t values c (Missing m) = (m ≡ c.root) × ((body_of P c.root ≡ None) ⊎ (IsSome (body_of P c.root) × SaysFull P t values c.root None))
FailsLast P t values c (Region m) = (m ≡ c.root) × HasWrongLine P t values c
FailsLast P t values c fault = ⊥

-- ---- a certificate

-- The fault of a certificate: that of the first section that fails, behind sections that meet their conditions; or what fails at the root.
pub data IsCertRefused (P : Program) (t : Timing) (bound_of : BoundOf) (c : Certificate) (fault : CheckFault) : Type 0 where
  in_section : (before after : List CertSection) (s : CertSection) (earlier : List Valued) → c.sections ≡ before ++ s ∷ after
      → MeetAll P t bound_of [] before earlier
      → SectionFails P t bound_of earlier s fault → IsCertRefused P t bound_of c fault
  at_end : (values : List Valued) → MeetAll P t bound_of [] c.sections values → FailsLast P t values c fault → IsCertRefused P t bound_of c fault

-- the same, where of want of memory nothing is said
abbrev pub IsRefusedOrMemory : Program → Timing → BoundOf → Certificate → CheckFault → Type 0
IsRefusedOrMemory P t bound_of c NoMemory = Unit {0}
IsRefusedOrMemory P t bound_of c fault = IsCertRefused P t bound_of c fault
