use Rattle.std.proofs.Common.{subst}
use Rattle.node_costs.specs.Costs.{bounds_of}
use Rattle.fact_checker.specs.Answer.{AcceptedPrices, MeetWithPrices}
use Rattle.fact_checker.proofs.checked.CheckedPrices.bound.Goals as goal

pub returns-clause-meets : goal.returns-clause-meets
returns-clause-meets c =
    let M : AcceptedPrices → Type 0 = λ k. MeetWithPrices k.flow (bounds_of k.flow k.bounds) k.timing k.facts k.certificate in
    subst M c.self.view_is c.self.invariant.1
