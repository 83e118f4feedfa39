-- The conditions on a certificate.
use Rattle.std.specs.Prelude.{◌≡◌, ℕ, ◌≤◌, List, [], ◌∷◌, ◌++◌, Option, Some, IsSome, unwrap_or}
use Rattle.certificates.specs.declared.cert.CertSection.{CertSection}
use Rattle.certificates.specs.Certificate.{Certificate}
use Rattle.bytecode_model.specs.Program.{Program, body_of}
use Rattle.method_flow.specs.Keeping.{BoundOf}
use Rattle.method_flow.specs.declared.timing.Timing.{Timing}
use Rattle.method_flow.specs.Costs.{IsPrintedOf}
use Rattle.bound_rules.specs.Told.{Valued, section_value, SaysFull, most_cycles}
use Rattle.bound_rules.specs.Sections.{MeetsSection}

-- each of these sections meets its conditions behind the earlier ones and those before it; in the end these are the values of all
abbrev pub MeetAll : Program → Timing → BoundOf → (earlier : List Valued) → List CertSection → (values : List Valued) → Type 0
MeetAll P t bound_of earlier [] values = values ≡ earlier
MeetAll P t bound_of earlier (s ∷ ss) values =
    (value : Option ℕ) × MeetsSection P t bound_of earlier s value × MeetAll P t bound_of (earlier ++ section_value s value ∷ []) ss values

-- the last line is right, where the sections say this of the root with all its loads: it is what is printed then, and a certificate can hold it
pub record IsRight (P : Program) (t : Timing) (full bound : Option ℕ) : Type 0 where
  pub printed : IsPrintedOf P t full bound
  pub small : unwrap_or bound 0 ≤ most_cycles

-- all sections meet their conditions, one behind the other, and the last line is right for the root, which has code and is not absent
pub record MeetsConditions (P : Program) (t : Timing) (bound_of : BoundOf) (c : Certificate) : Type 0 where
  pub values : List Valued
  pub sections : MeetAll P t bound_of [] c.sections values
  pub coded : IsSome (body_of P c.root)
  pub full : Option ℕ
  pub says : SaysFull P t values c.root (Some full)
  pub right : IsRight P t full c.bound
