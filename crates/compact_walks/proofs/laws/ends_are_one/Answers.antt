use Rattle.compact_walks.proofs.Parts.{ends_are_one}
use Rattle.compact_walks.proofs.laws.ends_are_one.Goals as goal

pub returns : goal.returns
returns c = ends_are_one c.reduction_has_one_end.ensures
