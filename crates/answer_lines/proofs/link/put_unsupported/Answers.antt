use Rattle.answer_lines.proofs.Joined.{at_place}
use Rattle.answer_lines.proofs.link.put_unsupported.Goals as goal

pub returns-in-Class-clause-put : goal.returns-in-Class-clause-put
returns-in-Class-clause-put g c = at_place (g.O.Sink.held c.args.sink.now) (g.O.Sink.held c.put_pieces.new.sink) c.args.file c.args.item.now c.put_pieces.result c.args.place _ c.in-Class.is c.put_pieces.ensures.put

pub returns-in-Field-clause-put : goal.returns-in-Field-clause-put
returns-in-Field-clause-put g c = at_place (g.O.Sink.held c.args.sink.now) (g.O.Sink.held c.put_pieces-in-Field.new.sink) c.args.file c.args.item.now c.put_pieces-in-Field.result c.args.place _ c.in-Field.is c.put_pieces-in-Field.ensures.put

pub returns-in-Method-clause-put : goal.returns-in-Method-clause-put
returns-in-Method-clause-put g c = at_place (g.O.Sink.held c.args.sink.now) (g.O.Sink.held c.put_pieces-in-Method.new.sink) c.args.file c.args.item.now c.put_pieces-in-Method.result c.args.place _ c.in-Method.is c.put_pieces-in-Method.ensures.put

pub returns-in-Code-clause-put : goal.returns-in-Code-clause-put
returns-in-Code-clause-put g c = at_place (g.O.Sink.held c.args.sink.now) (g.O.Sink.held c.put_pieces-in-Code.new.sink) c.args.file c.args.item.now c.put_pieces-in-Code.result c.args.place _ c.in-Code.is c.put_pieces-in-Code.ensures.put
