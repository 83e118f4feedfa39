use Rattle.bound_finder.proofs.Agreeing.{all_agree, known_are_numbers}
use Rattle.bound_finder.proofs.laws.known_are_numbers.Goals as goal

pub returns-clause-agree : goal.returns-clause-agree
returns-clause-agree c = all_agree

pub returns-clause-known : goal.returns-clause-known
returns-clause-known c = known_are_numbers
