use Rattle.bound_rules.proofs.Rising.{charged_loops_are_one}
use Rattle.bound_rules.proofs.laws.charged_loops_are_one.Goals as goal

pub returns : goal.returns
returns c = charged_loops_are_one
