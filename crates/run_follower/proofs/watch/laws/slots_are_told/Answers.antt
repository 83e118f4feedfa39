use Rattle.run_follower.proofs.WatchLemmas.SlotSums.{slots_told}
use Rattle.run_follower.proofs.watch.laws.slots_are_told.Goals as goal

pub returns : goal.returns
returns c = slots_told
