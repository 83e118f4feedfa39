-- What certificates with prices say of the machine.
use Rattle.std.specs.Prelude.{◌≤◌}
use Rattle.bytecode_model.specs.Program.{Program}
use Rattle.method_flow.specs.Keeping.{BoundOf}
use Rattle.method_flow.specs.declared.timing.Timing.{Timing}
use Rattle.activations.specs.Warrant.{BoundsActivations}
use Rattle.flow_facts.specs.Facts.{Facts, no_facts}
use Rattle.priced_cert.specs.Certificate.{PricedCertificate}
use Rattle.fact_rules.specs.Conditions.{MeetsPrices}
use Rattle.fact_keeping.specs.Keeping.{BoundsKept}

-- Where a certificate with prices meets its conditions, its last line bounds all activations of its root that keep the bounds of loops and the facts. The
-- waits are those that a machine can have.
abbrev pub PricesAreSound : Type 0
PricesAreSound =
    (P : Program) (t : Timing) (bound_of : BoundOf) (facts : Facts) (c : PricedCertificate) → t.read ≤ 63 → t.write ≤ 63
    → MeetsPrices P t bound_of facts c
    → BoundsKept P t bound_of facts c.plain.root c.plain.bound

-- Where it meets them though no facts are given, its last line bounds all activations of its root that keep the bounds of loops.
abbrev pub WithoutFactsPricesAreSound : Type 0
WithoutFactsPricesAreSound =
    (P : Program) (t : Timing) (bound_of : BoundOf) (c : PricedCertificate) → t.read ≤ 63 → t.write ≤ 63 → MeetsPrices P t bound_of no_facts c
    → BoundsActivations P t bound_of c.plain.root c.plain.bound
