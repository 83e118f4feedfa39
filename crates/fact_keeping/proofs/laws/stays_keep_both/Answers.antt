use Rattle.fact_keeping.proofs.Keeping.{stays_keep_both}
use Rattle.fact_keeping.proofs.laws.stays_keep_both.Goals as goal

pub returns : goal.returns
returns c = stays_keep_both
