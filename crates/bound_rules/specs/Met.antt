-- Sections that meet their conditions one behind another.
use Rattle.std.specs.Prelude.{ℕ, List, [], ◌∷◌, ◌++◌, Option}
use Rattle.certificates.specs.declared.cert.CertSection.{CertSection}
use Rattle.bytecode_model.specs.Program.{Program}
use Rattle.method_flow.specs.Keeping.{BoundOf}
use Rattle.method_flow.specs.declared.timing.Timing.{Timing}
use Rattle.bound_rules.specs.Told.{Valued, section_value}
use Rattle.bound_rules.specs.Sections.{MeetsSection}

-- the values of sections each of which meets its conditions behind those before it
pub data AreMet (P : Program) (t : Timing) (bound_of : BoundOf) : List Valued → Type 0 where
  nothing : AreMet P t bound_of []
  one_more : {earlier : List Valued} → AreMet P t bound_of earlier → (s : CertSection) (value : Option ℕ) → MeetsSection P t bound_of earlier s value
      → AreMet P t bound_of (earlier ++ section_value s value ∷ [])
