use Rattle.micro_sketch.proofs.Landing.{lands}
use Rattle.micro_sketch.proofs.laws.first_boundary_is_reached.Goals as goal

pub returns : goal.returns
returns c = lands
