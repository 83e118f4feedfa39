use Rattle.section_check.proofs.Entered.{loops_are_entered_at_headers}
use Rattle.section_check.proofs.laws.loops_are_entered_at_headers.Goals as goal

pub returns : goal.returns
returns c = loops_are_entered_at_headers
