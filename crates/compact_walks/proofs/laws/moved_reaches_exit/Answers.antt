use Rattle.compact_walks.proofs.Walks.{moved_reaches_exit}
use Rattle.compact_walks.proofs.laws.moved_reaches_exit.Goals as goal

pub returns : goal.returns
returns c = moved_reaches_exit
