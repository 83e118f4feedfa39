use Rattle.compact_walks.proofs.Greatest.{moved_is_greatest, moved_walk_exceeds, moved_iterations_exceed}
use Rattle.compact_walks.proofs.laws.moved_is_greatest.Goals as goal

pub returns-clause-greatest : goal.returns-clause-greatest
returns-clause-greatest c = moved_is_greatest

pub returns-clause-walks : goal.returns-clause-walks
returns-clause-walks c = moved_walk_exceeds

pub returns-clause-iterations : goal.returns-clause-iterations
returns-clause-iterations c = moved_iterations_exceed
