use Rattle.answer_lines.proofs.Joined.{at_link}
use Rattle.answer_lines.proofs.link.put_link_line.Goals as goal

pub returns-in-Duplicate-clause-put : goal.returns-in-Duplicate-clause-put
returns-in-Duplicate-clause-put g c = at_link (g.O.Sink.held c.args.sink.now) (g.O.Sink.held c.put_duplicate.new.sink) c.put_duplicate.result c.args.line.now _ c.in-Duplicate.is c.put_duplicate.ensures.put
