use Rattle.call_regions.proofs.Joining.{runs_are_calls}
use Rattle.call_regions.proofs.laws.runs_are_calls.Goals as goal

pub returns : goal.returns
returns c = runs_are_calls c.rows_are_of_their_kinds.ensures
