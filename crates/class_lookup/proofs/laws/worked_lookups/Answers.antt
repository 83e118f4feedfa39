use Rattle.class_lookup.proofs.Examples.{worked}
use Rattle.class_lookup.proofs.laws.worked_lookups.Goals as goal

pub returns : goal.returns
returns c = worked
