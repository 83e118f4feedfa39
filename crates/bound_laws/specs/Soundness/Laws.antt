-- What certificates say of the machine.
use Rattle.std.specs.Prelude.{◌≤◌}
use Rattle.certificates.specs.Certificate.{Certificate}
use Rattle.bytecode_model.specs.Program.{Program}
use Rattle.method_flow.specs.Keeping.{BoundOf}
use Rattle.method_flow.specs.declared.timing.Timing.{Timing}
use Rattle.bound_rules.specs.Conditions.{MeetsConditions}
use Rattle.activations.specs.Warrant.{BoundsActivations}

-- Where a certificate meets its conditions, its last line bounds all activations of its root that keep the bounds of loops. The waits are those that
-- a machine can have; beside them nothing is asked of the timing.
abbrev pub CertificatesAreSound : Type 0
CertificatesAreSound =
    (P : Program) (t : Timing) (bound_of : BoundOf) (c : Certificate) → t.read ≤ 63 → t.write ≤ 63 → MeetsConditions P t bound_of c
    → BoundsActivations P t bound_of c.root c.bound
