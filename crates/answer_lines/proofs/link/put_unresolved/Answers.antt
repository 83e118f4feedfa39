use Rattle.answer_lines.proofs.Joined.{at_named}
use Rattle.answer_lines.proofs.link.put_unresolved.Goals as goal

pub returns-in-Class-clause-put : goal.returns-in-Class-clause-put
returns-in-Class-clause-put g c =
    at_named (g.O.Sink.held c.args.sink.now) (g.O.Sink.held c.put_pieces.new.sink) c.args.file c.args.entry c.args.why.now c.put_pieces.result c.args.name.now _ c.in-Class.is c.put_pieces.ensures.put

pub returns-in-Member-clause-put : goal.returns-in-Member-clause-put
returns-in-Member-clause-put g c =
    at_named (g.O.Sink.held c.args.sink.now) (g.O.Sink.held c.put_pieces-in-Member.new.sink) c.args.file c.args.entry c.args.why.now c.put_pieces-in-Member.result c.args.name.now _ c.in-Member.is c.put_pieces-in-Member.ensures.put
