use Rattle.boundary.proofs.Stages.{stages_advance}
use Rattle.boundary.proofs.laws.stages_advance.Goals as goal

pub returns : goal.returns
returns c = stages_advance (record {
  simulates = c.families_are_simulated.ensures;
  unwinds = c.raises_come.ensures;
  read = c.rows_are_read.ensures.any;
  rows = c.rows_are_of_their_opcodes.ensures;
  forms = c.instructions_are_read.ensures.forms;
  opcodes = c.bare_images_have_bare_opcodes.ensures;
  keep = c.typed_programs_keep.ensures;
  well = c.fitting_states_are_well_formed.ensures;
})
