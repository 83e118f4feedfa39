use Rattle.bound_rules.proofs.Numbering.{numbers_are_one, printed_is_one}
use Rattle.bound_rules.proofs.laws.numbers_are_one.Goals as goal

pub returns-clause-numbers : goal.returns-clause-numbers
returns-clause-numbers c = numbers_are_one c.charges_are_one.ensures

pub returns-clause-printed : goal.returns-clause-printed
returns-clause-printed c = printed_is_one c.charges_are_one.ensures
