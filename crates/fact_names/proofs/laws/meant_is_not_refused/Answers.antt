use Rattle.fact_names.proofs.Uniting.{meant_is_not_refused}
use Rattle.fact_names.proofs.laws.meant_is_not_refused.Goals as goal

pub returns : goal.returns
returns c = meant_is_not_refused
