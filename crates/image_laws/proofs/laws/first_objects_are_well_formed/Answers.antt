use Rattle.image_laws.proofs.First.{first_objects}
use Rattle.image_laws.proofs.laws.first_objects_are_well_formed.Goals as goal

pub returns : goal.returns
returns c = first_objects c.resolved_programs_are_lawful.ensures
