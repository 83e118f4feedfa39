use Rattle.std.proofs.Common.{◌≤◌, take}
use Rattle.outside.specs.Outside.{Grew}
use Rattle.answer_lines.specs.Put.{joined}
use Rattle.answer_lines.proofs.pieces.put_pieces.Given as goal

abbrev pub invariant-loop-piece : goal.invariant-loop-piece
invariant-loop-piece g l = record {
  put : Grew (g.O.Sink.held l.fn.sink) (g.O.Sink.held l.sink) (joined (take l.piece-index l.pieces));
  later : g.O.Sink.faults l.fn.sink ≤ g.O.Sink.faults l.sink;
}
