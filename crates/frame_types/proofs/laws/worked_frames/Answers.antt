use Rattle.frame_types.proofs.WorkedExamples.{worked}
use Rattle.frame_types.proofs.laws.worked_frames.Goals as goal

pub returns : goal.returns
returns c = worked
