use Rattle.std.proofs.Common.{refl, sym, ◌∙◌}
use Rattle.outside.specs.Growing.{Grew-trans}
use Rattle.answer_lines.specs.Line.{line_of, is_fault}
use Rattle.answer_lines.specs.Said.{write_fault_line}
use Rattle.answer_lines.proofs.Joined.{Part-PutLine, said_less}
use Rattle.answer_lines.proofs.put.say.Goals as goal

pub returns-then-not-is_fault-clause-said : goal.returns-then-not-is_fault-clause-said
returns-then-not-is_fault-clause-said g c =
    let failed = c.in-Err.ensures.put in
    let fault = Part-PutLine (g.O.Sink.held c.put_line.new.sink) (g.O.Sink.held c.put_text.new.sink) write_fault_line (g.O.Sink.faults c.put_line.new.sink) (g.O.Sink.faults c.put_text.new.sink) c.put_text.result c.put_text.ensures.put c.put_text.ensures.cause in
    said_less (is_fault c.args.line.now) (line_of c.args.line.now) (g.O.Sink.held c.args.sink.now) (g.O.Sink.held c.put_text.new.sink) (g.O.Sink.faults c.args.sink.now) (g.O.Sink.faults c.put_text.new.sink) (sym c.is_fault.ensures ∙ c.if-not-is_fault.true) (record {
      front = failed.0;
      part = failed.1;
      middle = g.O.Sink.faults c.put_line.new.sink;
      rose = c.in-Err.ensures.cause.failed;
      later = c.put_text.ensures.cause.later;
      fault_front = fault.count;
      fault_within = fault.within;
      fault_part = fault.short;
      put = Grew-trans _ _ _ _ _ _ failed.2 fault.put refl;
    })
