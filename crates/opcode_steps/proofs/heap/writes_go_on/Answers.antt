use Rattle.opcode_steps.proofs.HeapLemmas.Going as going
use Rattle.opcode_steps.proofs.heap.writes_go_on.Goals as goal

pub returns : goal.returns
returns c = going.writes_go_on c.sketches_show.ensures c.rows_come.ensures.comes
