use Rattle.bound_rules.proofs.Finding.{one_more_meets}
use Rattle.bound_rules.proofs.laws.one_more_meets.Goals as goal

pub returns : goal.returns
returns c = one_more_meets
