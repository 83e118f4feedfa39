use Rattle.run_follower.proofs.WatchLemmas.Limits.{rising_few}
use Rattle.run_follower.proofs.watch.laws.rising_are_few.Goals as goal

pub returns : goal.returns
returns c = rising_few
