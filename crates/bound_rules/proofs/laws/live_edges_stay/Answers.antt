use Rattle.bound_rules.proofs.Ending.{live_edges_stay}
use Rattle.bound_rules.proofs.laws.live_edges_stay.Goals as goal

pub returns : goal.returns
returns c = live_edges_stay c.no_value_no_exit.ensures
