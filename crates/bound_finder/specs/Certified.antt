-- What shows that a bound is kept.
use Rattle.std.specs.Prelude.{◌≡◌, ℕ, List, [], Contains, Option}
use Rattle.bytecode_model.specs.Program.{Program}
use Rattle.method_flow.specs.Live.{CanEnd}
use Rattle.method_flow.specs.Keeping.{BoundOf}
use Rattle.method_flow.specs.declared.timing.Timing.{Timing}
use Rattle.certificates.specs.declared.cert.CertSection.{CertSection}
use Rattle.certificates.specs.Certificate.{Certificate}
use Rattle.bound_rules.specs.Conditions.{MeetsConditions}

-- the sections of methods that can't end list no node
abbrev pub AreEmptyIfEndless : Program → List CertSection → Type 0
AreEmptyIfEndless P ss = (s : CertSection) → Contains ss s → ¬ CanEnd P s.method → s.section.nodes ≡ []

-- a certificate of the method that says this bound meets its conditions
pub record IsCertified (P : Program) (t : Timing) (bound_of : BoundOf) (m : ℕ) (bound : Option ℕ) : Type 0 where
  pub certificate : Certificate
  pub meets : MeetsConditions P t bound_of certificate
  pub of_method : certificate.root ≡ m
  pub says : certificate.bound ≡ bound
