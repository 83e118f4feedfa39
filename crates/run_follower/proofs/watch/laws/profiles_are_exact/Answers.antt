use Rattle.run_follower.proofs.WatchLemmas.Limits.{profiles_exact}
use Rattle.run_follower.proofs.watch.laws.profiles_are_exact.Goals as goal

pub returns : goal.returns
returns c = profiles_exact
