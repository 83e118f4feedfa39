use Rattle.frame_types.proofs.FrameLaws.{frames_law}
use Rattle.frame_types.proofs.laws.frames_stand_at_instructions.Goals as goal

pub returns : goal.returns
returns c = frames_law
