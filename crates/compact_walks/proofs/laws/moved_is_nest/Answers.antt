use Rattle.compact_walks.proofs.Loops.{moved_is_nest}
use Rattle.compact_walks.proofs.Walks.{moved_headers}
use Rattle.compact_walks.proofs.laws.moved_is_nest.Goals as goal

pub returns-clause-headers : goal.returns-clause-headers
returns-clause-headers c = moved_headers

pub returns-clause-nest : goal.returns-clause-nest
returns-clause-nest c = moved_is_nest
