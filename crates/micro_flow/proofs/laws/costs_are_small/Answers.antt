use Rattle.micro_flow.proofs.Small.{costs_are_small, raise_is_small}
use Rattle.micro_flow.proofs.laws.costs_are_small.Goals as goal

pub returns : goal.returns
returns c = record { opcodes = costs_are_small; raise = raise_is_small }
