use Rattle.code_lines.proofs.Reading.{lines_are_one}
use Rattle.code_lines.proofs.Following.{lines_are_apart}
use Rattle.code_lines.proofs.laws.lines_follow_one_another.Goals as goal

pub returns-clause-one : goal.returns-clause-one
returns-clause-one c = lines_are_one

pub returns-clause-apart : goal.returns-clause-apart
returns-clause-apart c = lines_are_apart c.instructions_end_within.ensures
