use Rattle.class_lookup.proofs.Lookups.{found_fields, found_methods}
use Rattle.class_lookup.proofs.laws.members_are_found_above.Goals as goal

pub returns : goal.returns
returns c = record { fields = found_fields; methods = found_methods }
