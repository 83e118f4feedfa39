use Rattle.std.proofs.Common.{ℕ, sym, subst}
use Rattle.std.specs.declared.option.Option.{Option}
use Rattle.node_costs.specs.Costs.{bounds_of}
use Rattle.activations.specs.Warrant.{BoundsActivations}
use Rattle.bound_laws.proofs.soundness.warrant.Goals as goal

pub returns-clause-holds : goal.returns-clause-holds
returns-clause-holds c P flow =
    let k = c.args.c.now in
    let waits = c.bound.ensures.waits in
    let sound = c.certificates_are_sound.ensures P k.timing (bounds_of k.flow k.bounds) k.certificate waits.0 waits.1 (c.bound.ensures.meets P flow) in
    subst (λ (o : Option ℕ). BoundsActivations P k.timing (bounds_of k.flow k.bounds) k.certificate.root o) (sym c.bound.ensures.bound) sound
