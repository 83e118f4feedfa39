use Rattle.persistent_lists.proofs.ResidueLemmas.{covers_left, covers_right}
use Rattle.persistent_lists.proofs.residues.both.Goals as goal

pub returns-clause-first : goal.returns-clause-first
returns-clause-first c = covers_left c.args.first c.args.second

pub returns-clause-second : goal.returns-clause-second
returns-clause-second c = covers_right c.args.first c.args.second
