use Rattle.micro_sketch.proofs.Landing.{comes_soon}
use Rattle.micro_sketch.proofs.laws.a_boundary_comes_soon.Goals as goal

pub returns : goal.returns
returns c = comes_soon
