use Rattle.opcode_steps.proofs.HeapLemmas.Ending.{rows_made, raises_made}
use Rattle.opcode_steps.proofs.heap.rows_are_made.Goals as goal

pub returns-clause-go_on : goal.returns-clause-go_on
returns-clause-go_on c = rows_made c.rows_are_steps.ensures.enters

pub returns-clause-raise : goal.returns-clause-raise
returns-clause-raise c = raises_made c.rows_are_steps.ensures.enters
