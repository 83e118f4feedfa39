use Rattle.micro_sketch.proofs.Frames.{stsp_moves}
use Rattle.micro_sketch.proofs.laws.stack_pointer_moves.Goals as goal

pub returns : goal.returns
returns c = stsp_moves
