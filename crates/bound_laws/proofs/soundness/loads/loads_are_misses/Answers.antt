use Rattle.bound_laws.proofs.SoundnessLemmas.Missing.{loads_are_misses}
use Rattle.bound_laws.proofs.soundness.loads.loads_are_misses.Goals as goal

pub returns : goal.returns
returns c = loads_are_misses
