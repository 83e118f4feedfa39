use Rattle.memory_rules.proofs.Firsts.{stack_needs_are_one, most_is_one}
use Rattle.memory_rules.proofs.laws.needs_are_one.Goals as goal

pub returns-clause-stack : goal.returns-clause-stack
returns-clause-stack c = stack_needs_are_one

pub returns-clause-heap : goal.returns-clause-heap
returns-clause-heap c = most_is_one
