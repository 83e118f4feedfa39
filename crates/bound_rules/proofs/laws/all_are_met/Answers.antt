use Rattle.bound_rules.proofs.Finding.{all_are_met}
use Rattle.bound_rules.proofs.laws.all_are_met.Goals as goal

pub returns : goal.returns
returns c = all_are_met
