use Rattle.micro_sketch.proofs.Runs.{runs_on}
use Rattle.micro_sketch.proofs.laws.runs_go_on.Goals as goal

pub returns : goal.returns
returns c = runs_on
