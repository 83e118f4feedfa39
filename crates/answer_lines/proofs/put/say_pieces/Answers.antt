use Rattle.std.proofs.Common.{refl}
use Rattle.outside.specs.Growing.{Grew-trans}
use Rattle.answer_lines.specs.Said.{write_fault_line}
use Rattle.answer_lines.proofs.Joined.{Part-PutLine}
use Rattle.answer_lines.proofs.put.say_pieces.Goals as goal

pub returns-in-Err-clause-said : goal.returns-in-Err-clause-said
returns-in-Err-clause-said g c =
    let failed = c.in-Err.ensures.put in
    let fault = Part-PutLine (g.O.Sink.held c.put_pieces.new.sink) (g.O.Sink.held c.put_text.new.sink) write_fault_line (g.O.Sink.faults c.put_pieces.new.sink) (g.O.Sink.faults c.put_text.new.sink) c.put_text.result c.put_text.ensures.put c.put_text.ensures.cause in
    record {
      front = failed.0;
      part = failed.1;
      middle = g.O.Sink.faults c.put_pieces.new.sink;
      rose = c.in-Err.ensures.cause.failed;
      later = c.put_text.ensures.cause.later;
      fault_front = fault.count;
      fault_within = fault.within;
      fault_part = fault.short;
      put = Grew-trans _ _ _ _ _ _ failed.2 fault.put refl;
    }
