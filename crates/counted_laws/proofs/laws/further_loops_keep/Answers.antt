use Rattle.counted_laws.proofs.Keeping.{further_loops_keep}
use Rattle.counted_laws.proofs.laws.further_loops_keep.Goals as goal

pub returns : goal.returns
returns c = further_loops_keep c.runs_hold_arrays.ensures c.further_paths_keep.ensures
