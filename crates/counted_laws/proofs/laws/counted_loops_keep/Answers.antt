use Rattle.counted_laws.proofs.Keeping.{counted_loops_keep}
use Rattle.counted_laws.proofs.laws.counted_loops_keep.Goals as goal

pub returns : goal.returns
returns c = counted_loops_keep c.runs_have_paths.ensures c.counted_loops_are_further.ensures c.further_paths_keep.ensures
