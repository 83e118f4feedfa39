use Rattle.micro_sketch.proofs.Runs.{exec_sim}
use Rattle.micro_sketch.proofs.laws.machine_follows_the_sketch.Goals as goal

pub returns : goal.returns
returns c = exec_sim
