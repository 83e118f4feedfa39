use Rattle.loop_rules.proofs.FurtherLemmas.Coming.{came}
use Rattle.loop_rules.proofs.further.laws.lines_before_are_reached.Goals as goal

pub returns : goal.returns
returns c P m p to r from line = came c.lines_follow_one_another.ensures.apart c.one_stands_before.ensures.line P m from.stays p to r line from.unnamed from.reached
