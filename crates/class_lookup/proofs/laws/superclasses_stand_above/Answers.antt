use Rattle.class_lookup.proofs.Hierarchies.{superclasses_law}
use Rattle.class_lookup.proofs.laws.superclasses_stand_above.Goals as goal

pub returns : goal.returns
returns c = superclasses_law
