use Rattle.bound_rules.proofs.Refusing.{refused_is_not_met}
use Rattle.bound_rules.proofs.laws.refused_is_not_met.Goals as goal

pub returns : goal.returns
returns c = refused_is_not_met
