use Rattle.boundary.proofs.InARow.{runs_are_in_a_row}
use Rattle.boundary.proofs.laws.runs_are_in_a_row.Goals as goal

pub returns : goal.returns
returns c = runs_are_in_a_row
