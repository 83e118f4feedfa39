use Rattle.fact_rules.proofs.Walking.{priced_sections_bound_walks, own_prices_bound_walks}
use Rattle.fact_rules.proofs.laws.priced_sections_bound_walks.Goals as goal

pub returns-clause-with_root_prices : goal.returns-clause-with_root_prices
returns-clause-with_root_prices c = priced_sections_bound_walks c.priced_live_edges_stay.ensures c.paid_bound_walks.ensures

pub returns-clause-own_prices : goal.returns-clause-own_prices
returns-clause-own_prices c = own_prices_bound_walks c.priced_live_edges_stay.ensures c.paid_bound_walks.ensures
