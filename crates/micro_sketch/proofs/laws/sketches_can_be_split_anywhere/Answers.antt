use Rattle.micro_sketch.proofs.Frames.{split_anywhere}
use Rattle.micro_sketch.proofs.laws.sketches_can_be_split_anywhere.Goals as goal

pub returns : goal.returns
returns c = split_anywhere
