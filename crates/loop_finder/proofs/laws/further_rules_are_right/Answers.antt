use Rattle.loop_finder.proofs.Further.{rules_are_right}
use Rattle.loop_finder.proofs.laws.further_rules_are_right.Goals as goal

pub returns : goal.returns
returns c = rules_are_right
