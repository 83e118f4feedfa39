use Rattle.class_lookup.proofs.Lookups.{fields_step}
use Rattle.class_lookup.proofs.laws.fields_are_looked_up.Goals as goal

pub returns : goal.returns
returns c = fields_step
