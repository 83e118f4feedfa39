use Rattle.counted_laws.proofs.Beginning.{counted_loops_are_further}
use Rattle.counted_laws.proofs.laws.counted_loops_are_further.Goals as goal

pub returns : goal.returns
returns c = counted_loops_are_further c.last_writes_are_reached.ensures.reached c.entry_dominates_all.ensures
