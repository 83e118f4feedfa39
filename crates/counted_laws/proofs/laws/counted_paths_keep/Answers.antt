use Rattle.counted_laws.proofs.Keeping.{counted_paths_keep}
use Rattle.counted_laws.proofs.laws.counted_paths_keep.Goals as goal

pub returns : goal.returns
returns c = counted_paths_keep c.counted_loops_are_further.ensures c.further_paths_keep.ensures
