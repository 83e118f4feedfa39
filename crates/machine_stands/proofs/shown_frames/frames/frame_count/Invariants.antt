use Rattle.machine_stands.specs.ShownFrames.Frames.{EachFrameAt}
use Rattle.machine_stands.proofs.shown_frames.frames.frame_count.Given as goal

abbrev pub invariant-loop-at : goal.invariant-loop-at
invariant-loop-at g l = EachFrameAt l.methods l.machine l.at l.count

abbrev pub decreases-loop-at : goal.decreases-loop-at
decreases-loop-at g l = l.at.locals
