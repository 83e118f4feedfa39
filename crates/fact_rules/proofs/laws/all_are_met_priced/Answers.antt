use Rattle.fact_rules.proofs.Finding.{all_are_met_priced}
use Rattle.fact_rules.proofs.laws.all_are_met_priced.Goals as goal

pub returns : goal.returns
returns c = all_are_met_priced
