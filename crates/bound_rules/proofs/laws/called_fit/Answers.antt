use Rattle.bound_rules.proofs.Parting.{called_fit}
use Rattle.bound_rules.proofs.laws.called_fit.Goals as goal

pub returns : goal.returns
returns c = called_fit
