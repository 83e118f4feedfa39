use Rattle.bound_laws.proofs.SoundnessLemmas.Paying.{stays_are_paid}
use Rattle.bound_laws.proofs.soundness.stays.stays_are_paid.Goals as goal

pub returns : goal.returns
returns c = stays_are_paid c.loads_keep_the_sum.ensures c.look_ups_keep_sizes.ensures c.look_ups_follow.ensures c.stalls_follow.ensures
