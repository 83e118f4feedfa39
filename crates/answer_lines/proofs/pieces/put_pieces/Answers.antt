use Rattle.std.proofs.Common.{arith}
use Rattle.outside.specs.Growing.{Grew-trans}
use Rattle.answer_lines.proofs.Joined.{joined-more, joined-front, PutLine-err}
use Rattle.answer_lines.proofs.pieces.put_pieces.Goals as goal

pub loop-piece-preserved : goal.loop-piece-preserved
loop-piece-preserved g c = record {
  put = Grew-trans _ _ _ _ _ _ c.loop-piece.invariant.put c.in_ok-put_piece.ensures.all (joined-more c.args.pieces.now c.loop-piece.piece-index _ c.loop-piece-test.true);
  later = omega (arith, c.in_ok-put_piece.ensures.cause.later);
}

pub returns-in_err-put_piece-clause-put : goal.returns-in_err-put_piece-clause-put
returns-in_err-put_piece-clause-put g c =
    let failed = c.in_err-put_piece.ensures.front in
    let front = joined-front c.args.pieces.now c.loop-piece.piece-index failed.0 _ c.loop-piece-test.true failed.1 in
    PutLine-err _ _ _ c.from_residual.result c.from_residual.ensures.0 front.count front.part (Grew-trans _ _ _ _ _ _ c.loop-piece.invariant.put failed.2 front.is)
