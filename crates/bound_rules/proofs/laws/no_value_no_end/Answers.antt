use Rattle.bound_rules.proofs.Ending.{no_value_no_end}
use Rattle.bound_rules.proofs.laws.no_value_no_end.Goals as goal

pub returns : goal.returns
returns c = no_value_no_end c.no_value_no_exit.ensures
