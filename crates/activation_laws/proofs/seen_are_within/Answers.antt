use Rattle.activation_laws.proofs.Within.{seen_are_within}
use Rattle.activation_laws.proofs.seen_are_within.Goals as goal

pub returns : goal.returns
returns c = seen_are_within c.fitting_states_are_well_formed.ensures c.cycles_keep.ensures c.rising_are_few.ensures
