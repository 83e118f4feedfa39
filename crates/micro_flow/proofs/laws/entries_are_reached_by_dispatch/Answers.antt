use Rattle.micro_flow.proofs.Closed.{entries_inside, raise_apart, reached_by_dispatch}
use Rattle.micro_flow.proofs.laws.entries_are_reached_by_dispatch.Goals as goal

pub returns : goal.returns
returns c = record { inside = entries_inside; apart = raise_apart; dispatch = reached_by_dispatch }
