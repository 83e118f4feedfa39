use Rattle.bound_laws.proofs.Nests.{nests_exist}
use Rattle.bound_laws.proofs.laws.nests_exist.Goals as goal

pub returns : goal.returns
returns c = nests_exist c.loops_are_nested.ensures
