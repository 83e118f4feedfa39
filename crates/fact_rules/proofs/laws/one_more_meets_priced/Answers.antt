use Rattle.fact_rules.proofs.Finding.{one_more_meets_priced}
use Rattle.fact_rules.proofs.laws.one_more_meets_priced.Goals as goal

pub returns : goal.returns
returns c = one_more_meets_priced
