use Rattle.memory_laws.proofs.Overflowing.{stack_need_suffices}
use Rattle.memory_laws.proofs.laws.stack_need_suffices.Goals as goal

pub returns : goal.returns
returns c = stack_need_suffices c.fitting_states_are_well_formed.ensures c.the_boot_state_fits.ensures c.steps_have_shapes.ensures c.runs_have_walks.ensures c.first_walks_stand.ensures.boot
