use Rattle.boundary.proofs.BareStates.{have_bare_states}
use Rattle.boundary.proofs.laws.bare_images_have_bare_states.Goals as goal

pub returns : goal.returns
returns c = have_bare_states c.bare_images_are_programs.ensures c.typed_programs_keep.ensures c.fitting_states_are_well_formed.ensures
