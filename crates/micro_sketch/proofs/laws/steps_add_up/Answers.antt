use Rattle.micro_sketch.proofs.Stepping.{Ran-add}
use Rattle.micro_sketch.proofs.laws.steps_add_up.Goals as goal

pub returns : goal.returns
returns c = Ran-add
