use Rattle.micro_flow.proofs.Closed.{raises_where_it_may}
use Rattle.micro_flow.proofs.laws.opcodes_raise_where_they_may.Goals as goal

pub returns : goal.returns
returns c = raises_where_it_may
