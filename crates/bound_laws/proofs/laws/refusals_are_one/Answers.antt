use Rattle.bound_laws.proofs.CompactOnes.{left_is_one}
use Rattle.bound_laws.proofs.Causes.{refusals_are_one, printed_is_not_forbidden}
use Rattle.bound_laws.proofs.laws.refusals_are_one.Goals as goal

pub returns-clause-one : goal.returns-clause-one
returns-clause-one c = refusals_are_one (left_is_one c.graphs_are_moved.ensures.graphs c.ends_are_one.ensures c.graphs_are_one.ensures.whole) c.numbers_exist.ensures

pub returns-clause-none : goal.returns-clause-none
returns-clause-none c = printed_is_not_forbidden (left_is_one c.graphs_are_moved.ensures.graphs c.ends_are_one.ensures c.graphs_are_one.ensures.whole)
