use Rattle.boundary.proofs.BareStepping.{images_step}
use Rattle.boundary.proofs.laws.bare_images_step.Goals as goal

pub returns : goal.returns
returns c = images_step c.bare_images_are_programs.ensures c.typed_programs_keep.ensures c.fitting_states_are_well_formed.ensures
