use Rattle.loop_rules.proofs.FurtherLemmas.Oneness.{pushed_are_one, arrays_are_one, first_lines_are_reached}
use Rattle.loop_rules.proofs.further.laws.pushed_are_one.Goals as goal

pub returns-clause-ints : goal.returns-clause-ints
returns-clause-ints c = pushed_are_one c.lines_follow_one_another.ensures.one c.lines_follow_one_another.ensures.apart c.one_stands_before.ensures.line

pub returns-clause-arrays : goal.returns-clause-arrays
returns-clause-arrays c = arrays_are_one c.lines_follow_one_another.ensures.one c.lines_follow_one_another.ensures.apart c.one_stands_before.ensures.line

pub returns-clause-reached : goal.returns-clause-reached
returns-clause-reached c = first_lines_are_reached c.lines_follow_one_another.ensures.one c.lines_follow_one_another.ensures.apart c.one_stands_before.ensures.line
