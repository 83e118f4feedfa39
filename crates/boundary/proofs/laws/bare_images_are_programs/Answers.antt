use Rattle.boundary.proofs.BarePrograms.{are_programs}
use Rattle.boundary.proofs.laws.bare_images_are_programs.Goals as goal

pub returns : goal.returns
returns c = are_programs c.bare_images_say.ensures c.bare_programs_are_typed.ensures
