use Rattle.fact_rules.proofs.Refusing.{priced_refused_is_not_met}
use Rattle.fact_rules.proofs.laws.priced_refused_is_not_met.Goals as goal

pub returns : goal.returns
returns c = priced_refused_is_not_met
