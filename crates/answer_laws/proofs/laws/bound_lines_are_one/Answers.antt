use Rattle.answer_laws.proofs.OneText as law
use Rattle.answer_laws.proofs.laws.bound_lines_are_one.Goals as goal

pub returns : goal.returns
returns c = law.bound_lines_are_one c.answers_are_one.ensures
