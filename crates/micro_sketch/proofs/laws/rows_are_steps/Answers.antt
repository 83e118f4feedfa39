use Rattle.micro_sketch.proofs.RowSteps.{row_laws}
use Rattle.micro_sketch.proofs.laws.rows_are_steps.Goals as goal

pub returns : goal.returns
returns c = row_laws c.costs_are_small.ensures.opcodes
