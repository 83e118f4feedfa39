use Rattle.run_follower.proofs.WatchLemmas.Limits.{slots_exact}
use Rattle.run_follower.proofs.watch.laws.slots_are_exact.Goals as goal

pub returns : goal.returns
returns c = slots_exact
