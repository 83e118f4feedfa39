use Rattle.micro_sketch.proofs.Costs.{within_raise_cost}
use Rattle.micro_sketch.proofs.laws.raise_keeps_its_cost.Goals as goal

pub returns : goal.returns
returns c = within_raise_cost
