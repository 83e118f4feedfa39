use Rattle.micro_sketch.proofs.Costs.{within_cost}
use Rattle.micro_sketch.proofs.laws.opcodes_keep_their_costs.Goals as goal

pub returns : goal.returns
returns c = within_cost
