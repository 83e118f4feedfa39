use Rattle.class_lookup.proofs.Selecting.{methods}
use Rattle.class_lookup.proofs.laws.methods_have_signatures.Goals as goal

pub returns : goal.returns
returns c = methods
