use Rattle.memory_rules.proofs.Firsts.{first_line_is_one, first_length_is_one, lacking_line, lacking_length}
use Rattle.memory_rules.proofs.laws.first_lacking_is_one.Goals as goal

pub returns-clause-line : goal.returns-clause-line
returns-clause-line c = first_line_is_one

pub returns-clause-length : goal.returns-clause-length
returns-clause-length c = first_length_is_one

pub returns-clause-none : goal.returns-clause-none
returns-clause-none c = λ P given m p. (lacking_line P given m p, lacking_length P given m p)
