use Rattle.run_follower.proofs.WatchLemmas.ProfileSums.{each_has_a_row, profiles_told}
use Rattle.run_follower.proofs.watch.laws.profiles_are_told.Goals as goal

pub returns : goal.returns
returns c = record { rows = each_has_a_row; told = profiles_told }
