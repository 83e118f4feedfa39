use Rattle.priced_sections.proofs.Bounding.{paid_bound_walks}
use Rattle.priced_sections.proofs.laws.paid_bound_walks.Goals as goal

pub returns : goal.returns
returns c = paid_bound_walks c.own_bounds_suffice.ensures
