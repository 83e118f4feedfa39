use Rattle.fact_rules.proofs.Ending.{no_priced_value_no_end}
use Rattle.fact_rules.proofs.laws.no_priced_value_no_end.Goals as goal

pub returns : goal.returns
returns c = no_priced_value_no_end c.no_value_no_end.ensures
