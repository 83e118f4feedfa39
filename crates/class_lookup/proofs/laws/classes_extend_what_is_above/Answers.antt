use Rattle.class_lookup.proofs.Hierarchies.{hierarchy}
use Rattle.class_lookup.proofs.laws.classes_extend_what_is_above.Goals as goal

pub returns : goal.returns
returns c = hierarchy
