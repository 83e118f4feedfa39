use Rattle.code_lines.proofs.Following.{one_stands_before, one_is_pushed_before}
use Rattle.code_lines.proofs.laws.one_stands_before.Goals as goal

pub returns-clause-line : goal.returns-clause-line
returns-clause-line c = one_stands_before c.lines_follow_one_another.ensures.apart

pub returns-clause-int : goal.returns-clause-int
returns-clause-int c = one_is_pushed_before c.lines_follow_one_another.ensures.one (one_stands_before c.lines_follow_one_another.ensures.apart)
