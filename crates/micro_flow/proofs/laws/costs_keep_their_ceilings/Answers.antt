use Rattle.micro_flow.proofs.Ceilings.{costs_keep_ceilings, raise_keeps_ceiling}
use Rattle.micro_flow.proofs.laws.costs_keep_their_ceilings.Goals as goal

pub returns : goal.returns
returns c = record { opcodes = costs_keep_ceilings; raise = raise_keeps_ceiling }
