use Rattle.fact_rules.proofs.Ending.{priced_live_edges_stay}
use Rattle.fact_rules.proofs.laws.priced_live_edges_stay.Goals as goal

pub returns : goal.returns
returns c = priced_live_edges_stay c.no_value_no_end.ensures
