use Rattle.descriptors.proofs.NameLaws.{class_names}
use Rattle.descriptors.proofs.laws.class_names.Goals as goal

pub returns : goal.returns
returns c = class_names
