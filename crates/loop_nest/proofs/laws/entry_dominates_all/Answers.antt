use Rattle.loop_nest.proofs.Classes.{start_visited}
use Rattle.loop_nest.proofs.laws.entry_dominates_all.Goals as goal

pub returns : goal.returns
returns c = λ g u ns t. start_visited t
