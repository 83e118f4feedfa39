use Rattle.std.proofs.Common.{refl}
use Rattle.run_follower.proofs.watch.laws.worked_run.Goals as goal

pub returns : goal.returns
returns c = record { outer = refl; inner = refl; other = refl; late = refl; idle = refl; one_slot = refl }
