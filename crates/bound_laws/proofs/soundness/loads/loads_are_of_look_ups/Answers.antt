use Rattle.bound_laws.proofs.SoundnessLemmas.Once.{loads_are}
use Rattle.bound_laws.proofs.soundness.loads.loads_are_of_look_ups.Goals as goal

pub returns : goal.returns
returns c = loads_are c.steps_are_told.ensures c.loads_follow.ensures
