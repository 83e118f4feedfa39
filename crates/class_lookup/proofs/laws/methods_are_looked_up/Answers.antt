use Rattle.class_lookup.proofs.Lookups.{methods_step}
use Rattle.class_lookup.proofs.laws.methods_are_looked_up.Goals as goal

pub returns : goal.returns
returns c = methods_step
