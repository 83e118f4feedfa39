use Rattle.jop_core.proofs.Kept.{cycles_keep}
use Rattle.jop_core.proofs.laws.cycles_keep.Goals as goal

pub returns : goal.returns
returns c = cycles_keep
