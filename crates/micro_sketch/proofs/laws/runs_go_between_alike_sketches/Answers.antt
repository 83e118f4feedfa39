use Rattle.micro_sketch.proofs.Alike.{between_alike}
use Rattle.micro_sketch.proofs.laws.runs_go_between_alike_sketches.Goals as goal

pub returns : goal.returns
returns c = between_alike
