use Rattle.bound_finder.proofs.Turning.{costs_are_limited}
use Rattle.bound_finder.proofs.laws.costs_are_limited.Goals as goal

pub returns : goal.returns
returns c = costs_are_limited c.starts_follow_one_another.ensures c.rows_are_of_their_kinds.ensures
