use Rattle.certificates.proofs.LineLemmas.{absent_loop, no_members}
use Rattle.certificates.proofs.line_reader.line.loop_line.Goals as goal

pub returns-in_default : goal.returns-in_default
returns-in_default c = absent_loop c.args.region c.args.rest.now c.in_default.ensures

pub returns-in_default-2 : goal.returns-in_default-2
returns-in_default-2 c = no_members c.args.region c.args.rest.now c.in-Some.text.now c.in-Some.header c.in-Some.cost c.in-Some.ensures.0 c.in-Some.ensures.1 (rw c.in_default-2.is at c.in_ok-members.ensures)
