use Rattle.fact_keeping.proofs.Counting.{own_visits_count}
use Rattle.fact_keeping.proofs.laws.own_visits_count.Goals as goal

pub returns : goal.returns
returns c = own_visits_count c.activations_are_trees.ensures
